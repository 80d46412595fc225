-- Which channels owe all that they may.
use Rattle.std.proofs.Common.{◌≡◌, ℕ, ◌+◌, ◌-◌, ◌<◌, ◌≤◌, ◌&&◌, ◌||◌, ◌==◌, Bool, true, false, not, nat_lt}
use Rattle.std.proofs.Common.{if◌then◌else◌, List, [], ◌∷◌, Some, None, slice_set, arith, ap, ◌∙◌, refl, sym}
use Rattle.std.proofs.Common.{subst}
use Rattle.std.proofs.lemmas.Bool.Decides.{nat_tests}
use Rattle.worm_flit.specs.declared.Flit.{Flit}
use Rattle.worm_flit.specs.Stamps.{with_channel}
use Rattle.worm_records.specs.declared.InRecord.{InRecord}
use Rattle.worm_records.specs.declared.InRecord.TheVariants.{Idle, Waiting, Active}
use Rattle.worm_records.specs.declared.OutRecord.{OutRecord}
use Rattle.worm_vcalloc.specs.ChannelSet.{has}
use Rattle.worm_router.specs.Router.{RouterState, ChannelState, IsPlace, owed_for, terminal, width, input_at}
use Rattle.worm_router.specs.Router.{is_linked, output_at, leaving, leaving_by}
use Rattle.worm_router.specs.Busy.{IsFiled, OweAll, owes_all}
use Rattle.worm_router.proofs.Places.{IsInput}
use Rattle.worm_router.proofs.Those.{those_filed, those_stay}

-- one that may owe no more: a flit more would be past the depth
past_depth : (linked : Bool) (owed depth : ℕ) → owed ≤ depth
    → nat_lt depth (owed + (if linked then 1 else 0)) ≡ not (not linked || nat_lt owed depth)
past_depth true owed depth fits = grind (arith, nat_tests)
past_depth false owed depth fits = grind (arith, nat_tests)

pub owes_past : (r : RouterState) (port owed more : ℕ) → owed ≤ r.depth → more ≡ owed_for r port
    → nat_lt r.depth (owed + more) ≡ owes_all r port owed
owes_past r port owed more fits costs =
    ap (λ k. nat_lt r.depth (owed + k)) costs ∙ past_depth (is_linked r port) owed r.depth fits

-- one that has given a credit owes less
pub owes_less : (r : RouterState) (port owed : ℕ) → 0 < owed → owed ≤ r.depth → false ≡ owes_all r port (owed - 1)
owes_less r port owed some fits =
    let room : nat_lt (owed - 1) r.depth ≡ true = grind (arith, nat_tests) in
    none (not (is_linked r port)) ∙ sym (ap (λ b. not (not (is_linked r port) || b)) room) where
      none : (b : Bool) → false ≡ not (b || true)
      none true = refl
      none false = refl

-- a channel whose front may leave owes less
second_true : (a b : Bool) (d : ℕ × Flit) (o : ℕ) (f : Flit) → (if a && b then Some (o, f) else None) ≡ Some d
    → not b ≡ false
second_true true true d o f e = refl
second_true true false d o f e = absurd (cc)
second_true false b d o f e = absurd (cc)

pub leaves_owing_less : (r : RouterState) (port vc set : ℕ) (d : ℕ × Flit) → IsPlace r port vc → OweAll r set
    → leaving r port vc ≡ Some d → has set port vc ≡ false
leaves_owing_less r port vc set d place those leaves =
    those.each port vc place.port_in place.channel_in
    ∙ by (input_at r port vc) (input_at r port vc).state (input_at r port vc).buffer leaves where
      by : (c : ChannelState) (s : InRecord) (fs : List Flit) → leaving_by r port c s fs ≡ Some d
          → owes_all r port c.owed ≡ false
      by c Idle fs is = absurd (cc)
      by c (Waiting o) fs is = absurd (cc)
      by c (Active o v) [] is = absurd (cc)
      by c (Active o v) (f ∷ fs) is =
          second_true (o == terminal r || nat_lt 0 (output_at r o v).credits)
          (not (is_linked r port) || nat_lt c.owed r.depth) d o (with_channel f v) is

-- one input channel is written
module _ (r : RouterState) (port vc i : ℕ) (had now : ChannelState) (input : IsInput r port vc i had)
    (few_ports : terminal r ≤ 6) (few_channels : width r ≤ 8) (outputs : List OutRecord) (old new : ℕ) where
  owe_filed : IsFiled old new port vc (owes_all r port now.owed) → OweAll r old
      → OweAll (record r { inputs = slice_set r.inputs i now; outputs = outputs }) new
  owe_filed filed those =
      those_filed r port vc i had now input few_ports few_channels (λ p c. owes_all r p c.owed)
      (λ p c. owes_all r p c.owed) outputs old new filed (λ p v _ _. refl) those

  -- it owes as much as before
  pub owe_stay : new ≡ old → now.owed ≡ had.owed → OweAll r old
      → OweAll (record r { inputs = slice_set r.inputs i now; outputs = outputs }) new
  owe_stay same owed =
      those_stay r port vc i had now input few_ports few_channels (λ p c. owes_all r p c.owed) outputs old new same
      (ap (owes_all r port) owed)

  -- it has let a flit out
  pub owe_left : (more : ℕ) → now.owed ≤ r.depth → more ≡ owed_for r port
      → IsFiled old new port vc (nat_lt r.depth (now.owed + more)) → OweAll r old
      → OweAll (record r { inputs = slice_set r.inputs i now; outputs = outputs }) new
  owe_left more fits costs filed those =
      owe_filed (subst (IsFiled old new port vc) (owes_past r port now.owed more fits costs) filed) those

  -- it has given a credit
  pub owe_given : now.owed ≡ had.owed - 1 → 0 < had.owed → had.owed ≤ r.depth → IsFiled old new port vc false
      → OweAll r old → OweAll (record r { inputs = slice_set r.inputs i now; outputs = outputs }) new
  owe_given less some fits filed those =
      owe_filed (subst (IsFiled old new port vc)
      (owes_less r port had.owed some fits ∙ sym (ap (owes_all r port) less)) filed) those

-- a fresh one owes nothing
pub owes_none : (r : RouterState) (port : ℕ) → 1 ≤ r.depth → owes_all r port 0 ≡ false
owes_none r port some =
    let room : nat_lt 0 r.depth ≡ true = grind (arith, nat_tests) in
    ap (λ b. not (not (is_linked r port) || b)) room ∙ none (not (is_linked r port)) where
      none : (b : Bool) → not (b || true) ≡ false
      none true = refl
      none false = refl
