-- The parts that workers gave back, by worker.
use Rattle.std.proofs.Common.{◌≡◌, ℕ, zero, suc, ◌+◌, ◌<◌, ◌≤◌, List, [], ◌∷◌, length, map, refl, arith, ap, sym, subst}
use Rattle.std.proofs.Common.{◌∙◌}
use Rattle.std.specs.Prelude.{slice_index_or}
use Rattle.std.proofs.lemmas.List.{get_or-map, length-map}
use Rattle.worm_region.specs.State.{NetState}
use Rattle.worm_script.specs.declared.entry.Entry.{Entry}
use Rattle.worm_split.specs.Joins.{AreParts}
use Rattle.worm_split.specs.PartState.{PartState, IsSamePart}
use Rattle.worm_split.specs.Splits.{IsFirstPart, IsSplitOf, no_part, part_at}
use Rattle.worm_split.proofs.StillParts.{split_parts, still_parts}
use Rattle.worm_run.specs.Working.{AllWorked, WorkedAs, fault_of_stop}
use Rattle.worm_run.specs.declared.working.Worked.{Worked}
use Rattle.worm_run.proofs.Endings.{ends_same}

abbrev pub part_of : Worked → PartState
part_of w = w.part

abbrev pub no_work : Worked
no_work = record { part = no_part; ended = 0; stop = Rattle.std.proofs.Common.None }

abbrev pub worked_at : List Worked → ℕ → Worked
worked_at done w = slice_index_or done w no_work

module _ (stop pass : ℕ → ℕ → Type 0) (script : List Entry) (turns : ℕ) where
  pub as_many : (first : ℕ) (ps : List PartState) (ws : List Worked) → AllWorked stop pass script turns first ps ws →
      length ws ≡ length ps
  as_many first [] [] all = refl
  as_many first [] (w ∷ ws) all = absurd all
  as_many first (p ∷ ps) [] all = absurd all
  as_many first (p ∷ ps) (w ∷ ws) all = ap (λ (n : ℕ). suc n) (as_many (first + 1) ps ws all.1)

  pub each_worked : (first : ℕ) (ps : List PartState) (ws : List Worked)
      → AllWorked stop pass script turns first ps ws → (i : ℕ) → i < length ps →
      WorkedAs stop pass script turns (first + i) (part_at ps i) (worked_at ws i)
  each_worked first [] [] all i below = absurd (omega arith)
  each_worked first [] (w ∷ ws) all i below = absurd all
  each_worked first (p ∷ ps) [] all i below = absurd all
  each_worked first (p ∷ ps) (w ∷ ws) all zero below =
      let same : first ≡ first + 0 = omega arith in
      subst (λ (n : ℕ). WorkedAs stop pass script turns n p w) same all.0
  each_worked first (p ∷ ps) (w ∷ ws) all (suc i) below =
      let same : (first + 1) + i ≡ first + suc i = omega arith in
      subst (λ (n : ℕ). WorkedAs stop pass script turns n (part_at ps i) (worked_at ws i)) same
      (each_worked (first + 1) ps ws all.1 i (omega arith))

-- a network was split, and each worker worked on its part
module _ (stop pass : ℕ → ℕ → Type 0) (script : List Entry) (turns : ℕ) (old : NetState) (workers : ℕ)
    (parts : List PartState) (done : List Worked) (split : IsSplitOf old workers parts)
    (all : AllWorked stop pass script turns 0 parts done) where
  abbrev pub moved : List PartState
  moved = map part_of done

  pub count : length moved ≡ workers
  count = length-map done part_of ∙ (as_many stop pass script turns 0 parts done all ∙ split.count)

  pub worked : (w : ℕ) → w < workers → WorkedAs stop pass script turns w (part_at parts w) (worked_at done w)
  worked w below =
      let within : w < length parts = let n = split.count in omega arith in
      let same : 0 + w ≡ w = omega arith in
      subst (λ (n : ℕ). WorkedAs stop pass script turns n (part_at parts w) (worked_at done w)) same
      (each_worked stop pass script turns 0 parts done all w within)

  pub moved_at : (w : ℕ) → w < workers → part_at moved w ≡ (worked_at done w).part
  moved_at w below =
      let within : w < length done = let n = split.count in let m = as_many stop pass script turns 0 parts done all in
      omega arith in
      get_or-map part_of done w no_work no_part within

  pub same : (w : ℕ) → w < workers → IsSamePart (part_at parts w) (part_at moved w)
  same w below =
      let did = worked w below in
      subst (λ (p : PartState). IsSamePart (part_at parts w) p) (sym (moved_at w below))
      (ends_same script (worked_at done w).ended (part_at parts w) (worked_at done w).part
      (fault_of_stop (worked_at done w).stop)
      did.ends)

  first_part : (w : ℕ) → w < workers → IsFirstPart old workers w split.pairs (part_at parts w)
  first_part w below = split.each w below

  pub opened : (w : ℕ) → w < workers → (part_at moved w).opening ≡ old
  opened w below = (same w below).opening ∙ (first_part w below).opened

  pub are_parts : 0 < workers → AreParts moved
  are_parts some =
      let n = split.count in
      still_parts parts moved (split_parts old workers parts split some) (count ∙ sym n)
      (λ w below. same w (omega (arith, n)))
