-- What a split gives are parts of one split, and they are so still once each of them took turns.
use Rattle.std.proofs.Common.{◌≡◌, ℕ, ◌<◌, List, length, arith, ap, sym, ◌∙◌}
use Rattle.worm_region.specs.State.{NetState}
use Rattle.worm_region.specs.declared.owner.Owner.{Owner}
use Rattle.worm_split.specs.Joins.{AreParts}
use Rattle.worm_split.specs.PartState.{PartState, IsSamePart}
use Rattle.worm_split.specs.Splits.{IsFirstPart, IsSplitOf, part_at}

-- a worker of so many
abbrev worker_of : ℕ → ℕ → Owner
worker_of w m = record { worker = w; workers = m }

module _ (opening : NetState) (workers : ℕ) (parts : List PartState) (split : IsSplitOf opening workers parts)
    (some : 0 < workers) where
  first_part : (w : ℕ) → w < workers → IsFirstPart opening workers w split.pairs (part_at parts w)
  first_part w below = split.each w below

  pub split_parts : AreParts parts
  split_parts =
      let n = split.count in
      record {
        some = omega (arith, n);
        owns = λ w below.
            let under : w < workers = omega (arith, n) in
            (first_part w under).own ∙ ap (λ (m : ℕ). worker_of w m) (sym n);
        one_opening = λ w below.
            let under : w < workers = omega (arith, n) in
            (first_part w under).opened ∙ sym (first_part 0 some).opened;
        one_split = λ w below.
            let under : w < workers = omega (arith, n) in
            (first_part w under).made ∙ sym (first_part 0 some).made;
      }

module _ (old new : List PartState) (parts : AreParts old) (count : length new ≡ length old)
    (same : (w : ℕ) → w < length old → IsSamePart (part_at old w) (part_at new w)) where
  pub still_parts : AreParts new
  still_parts =
      let some = parts.some in
      record {
        some = omega (arith, count, some);
        owns = λ w below.
            let under : w < length old = omega (arith, count) in
            (same w under).config.own ∙ (parts.owns w under ∙ ap (λ (m : ℕ). worker_of w m) (sym count));
        one_opening = λ w below.
            let under : w < length old = omega (arith, count) in
            (same w under).opening ∙ (parts.one_opening w under ∙ sym (same 0 some).opening);
        one_split = λ w below.
            let under : w < length old = omega (arith, count) in
            (same w under).pairs ∙ (parts.one_split w under ∙ sym (same 0 some).pairs);
      }
