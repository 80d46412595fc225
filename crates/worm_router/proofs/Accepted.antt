-- What a flit that came leaves of its channel.
use Rattle.std.proofs.Common.{◌≡◌, ◌++◌, ◌∷◌, [], length, length-append, nat_lt, Bool, true, false, arith, ◌||◌, ap}
use Rattle.std.proofs.Common.{if◌then◌else◌, ◌∙◌, sym}
use Rattle.std.proofs.lemmas.Bool.Decides.{nat_tests}
use Rattle.worm_flit.specs.declared.Flit.{Flit}
use Rattle.worm_router.specs.Router.{ChannelState, put_in}
use Rattle.worm_router.specs.Busy.{is_occupied, owes}

-- a flit that came, where the buffer had room
pub record IsPut (had now : ChannelState) (f : Flit) (came : Bool) : Type 0 where
  pub room : came ≡ nat_lt (length had.buffer) had.depth
  pub after : now ≡ (if came then put_in had f else had)

-- its record, and what it owes
pub record IsLeftBy (had now : ChannelState) : Type 0 where
  pub owing : owes now ≡ owes had
  pub state : now.state ≡ had.state
  pub owed : now.owed ≡ had.owed

pub put_leaves : (had now : ChannelState) (f : Flit) (came : Bool) → IsPut had now f came → IsLeftBy had now
put_leaves had now f true put = record {
  owing = ap owes put.after;
  state = ap (λ (c : ChannelState). c.state) put.after;
  owed = ap (λ (c : ChannelState). c.owed) put.after;
}
put_leaves had now f false put = record {
  owing = ap owes put.after;
  state = ap (λ (c : ChannelState). c.state) put.after;
  owed = ap (λ (c : ChannelState). c.owed) put.after;
}

-- it has one, if the flit came
pub put_occupied : (had now : ChannelState) (f : Flit) (came : Bool) → IsPut had now f came
    → (came || is_occupied had) ≡ is_occupied now
put_occupied had now f true put =
    let more = length-append had.buffer (f ∷ []) in
    let some : nat_lt 0 (length (had.buffer ++ f ∷ [])) ≡ true = grind (arith, nat_tests) in
    sym (ap is_occupied put.after ∙ some)
put_occupied had now f false put = sym (ap is_occupied put.after)
