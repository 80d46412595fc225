-- Which injection buffers are known to be full, and what a write of one input channel leaves of that.
use Rattle.std.proofs.Common.{◌≡◌, ℕ, ◌<◌, ◌≤◌, Bool, true, false, List, length}
use Rattle.std.proofs.Common.{slice_set, inl, inr, arith, ap, refl, sym, subst, ◌∙◌, ◌==◌, if◌then◌else◌}
use Rattle.std.specs.Prelude.{slice_index_or}
use Rattle.std.proofs.lemmas.Grind.{get_or-set_at}
use Rattle.std.proofs.lemmas.Bool.{cases_eq, eq-eqb}
use Rattle.std.proofs.lemmas.Bool.Decides.{nat_tests}
use Rattle.std.proofs.lemmas.List.{get_or-set_other}
use Rattle.std.proofs.lemmas.Nat.{same_from_place}
use Rattle.worm_flit.specs.declared.Flit.{Flit}
use Rattle.worm_flit.specs.Channels.{first_channel}
use Rattle.worm_flit.specs.SmallSet.{IsPut, has as has_small}
use Rattle.worm_flit.proofs.SmallSets.{has_none}
use Rattle.worm_records.specs.declared.OutRecord.{OutRecord}
use Rattle.worm_swalloc.specs.SwAlloc.{SwAllocState}
use Rattle.worm_vcalloc.specs.VcAlloc.{VcAllocState}
use Rattle.worm_router.specs.Router.{RouterState, ChannelState, terminal, width, line, fresh_channel}
use Rattle.worm_router.specs.Busy.{AreFull, IsFull}
use Rattle.worm_router.proofs.Accepted.{IsPut as IsTaken}
use Rattle.worm_router.proofs.Places.{IsInput}

-- none is in the empty set
pub none_full : (r : RouterState) → AreFull r 0
none_full r class class_in there = let no : true ≡ false = sym there ∙ has_none 0 class refl in absurd (cc)

-- one more is in it
pub more_full : (r : RouterState) (old new class : ℕ) → IsFull r class → IsPut old new class true → AreFull r old
    → AreFull r new
more_full r old new class full put those k k_in there = elim (cases_eq k class) [
  | inl same ↦ subst (IsFull r) (sym same) full
  | inr other ↦ those k k_in (sym (put.elsewhere k k_in other) ∙ there)
]

-- the same buffers, in a router of which something else has changed
pub full_as : (r : RouterState) (outputs : List OutRecord) (a : VcAllocState) (s : SwAllocState) (old new : ℕ)
    → new ≡ old → AreFull r old
    → AreFull (record r { outputs = outputs; channel_alloc = a; switch_alloc = s }) new
full_as r outputs a s old new same those k k_in there =
    let was = those k k_in (ap (λ set. has_small set k) (sym same) ∙ there) in
    record { class_in = was.class_in; channel_in = was.channel_in; no_room = was.no_room }

-- one input channel is written
module _ (r : RouterState) (port vc i : ℕ) (had now : ChannelState) (input : IsInput r port vc i had)
    (outputs : List OutRecord) (old new : ℕ) where
  -- where a full buffer of the set is the one that is written, it has no room as before
  full_written : new ≡ old
      → ((k : ℕ) → IsFull r k → line r (terminal r) (first_channel r.channels k) ≡ i
      → r.depth ≤ length had.buffer → r.depth ≤ length now.buffer)
      → AreFull r old → AreFull (record r { inputs = slice_set r.inputs i now; outputs = outputs }) new
  full_written same stays those k k_in there =
      let was = those k k_in (ap (λ set. has_small set k) (sym same) ∙ there) in
      let at = line r (terminal r) (first_channel r.channels k) in
      record {
        class_in = was.class_in;
        channel_in = was.channel_in;
        no_room = elim (cases_eq at i) [
          | inl same ↦
              let read : slice_index_or r.inputs at (fresh_channel r.depth) ≡ had =
              ap (λ j. slice_index_or r.inputs j (fresh_channel r.depth)) same ∙ sym input.was in
              subst (λ (c : ChannelState). r.depth ≤ length c.buffer)
              (sym (get_or-set_at r.inputs i at now (fresh_channel r.depth) same input.within))
              (stays k was same (subst (λ (c : ChannelState). r.depth ≤ length c.buffer) read was.no_room))
          | inr other ↦
              subst (λ (c : ChannelState). r.depth ≤ length c.buffer)
              (sym (get_or-set_other r.inputs i at now (fresh_channel r.depth) other)) was.no_room
        ];
      }

  -- one without room has none as before
  pub full_stay : new ≡ old → (r.depth ≤ length had.buffer → r.depth ≤ length now.buffer) → AreFull r old
      → AreFull (record r { inputs = slice_set r.inputs i now; outputs = outputs }) new
  full_stay same stays = full_written same (λ k known at. stays)

  -- it has the flits that it had
  pub full_kept : new ≡ old → now.buffer ≡ had.buffer → AreFull r old
      → AreFull (record r { inputs = slice_set r.inputs i now; outputs = outputs }) new
  full_kept same flits = full_stay same (subst (λ (fs : List Flit). r.depth ≤ length fs) (sym flits))

  -- a flit has left it: where that had been fed none is in the set, and else it is no injection buffer
  pub full_left : new ≡ (if port == terminal r then 0 else old) → AreFull r old
      → AreFull (record r { inputs = slice_set r.inputs i now; outputs = outputs }) new
  full_left new_is those = by (port == terminal r) refl new_is where
    fed_there : (k : ℕ) → IsFull r k → line r (terminal r) (first_channel r.channels k) ≡ i
        → (port == terminal r) ≡ true
    fed_there k known at =
        let place = same_from_place (terminal r) (first_channel r.channels k) port vc (width r) known.channel_in
        input.place.channel_in (at ∙ input.at) in
        eq-eqb port (terminal r) (sym place.0)

    by : (b : Bool) → (port == terminal r) ≡ b → new ≡ (if b then 0 else old)
        → AreFull (record r { inputs = slice_set r.inputs i now; outputs = outputs }) new
    by true fed none = λ k k_in there.
        let no : true ≡ false = sym there ∙ has_none new k (eq-eqb new 0 none) in absurd (cc)
    by false owed same =
        full_written same
        (λ k known at room. let no : true ≡ false = sym (fed_there k known at) ∙ owed in absurd (cc)) those

-- no flit comes into a full buffer
pub full_taken : (had now : ChannelState) (f : Flit) (came : Bool) (depth : ℕ) → IsTaken had now f came
    → had.depth ≡ depth → depth ≤ length had.buffer → depth ≤ length now.buffer
full_taken had now f true depth taken same full =
    let room = taken.room in
    let free : length had.buffer < had.depth = grind (arith, nat_tests) in
    absurd (omega arith)
full_taken had now f false depth taken same full =
    subst (λ (c : ChannelState). depth ≤ length c.buffer) (sym taken.after) full
