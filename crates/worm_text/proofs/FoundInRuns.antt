-- The first element that passes a test, found by runs: from a mask of a run's elements, and from one run to the next.
use Rattle.std.proofs.Common.{◌≡◌, ℕ, suc, ◌+◌, ◌*◌, ◌<◌, ◌≤◌, Bool, true, false, not, cond}
use Rattle.std.proofs.Common.{List, [], ◌∷◌, length, map, take, drop, Some, None, sym, ap, ◌∙◌, arith}
use Rattle.std.proofs.Common.{take-append-drop, length-take-le, length-drop, drop-drop}
use Rattle.std.specs.List.{position, position_or_len}
use Rattle.std.specs.Int.Count.{count_trailing_zeros}
use Rattle.std.specs.Simd.Lanes.{mask_l}
use Rattle.std.proofs.lemmas.Simd.{trailing_mask_l}
use Rattle.std.proofs.lemmas.List.Folds.{prefix_len-append}
use Rattle.std.proofs.lemmas.List.Sums.{prefix_len-le-length}
use Rattle.std.proofs.lemmas.Bool.{cond-true, eq-eqb, lt-ltb, ltb-false}
use Rattle.worm_text.proofs.Cuts.{no_position}

module _ {X : Type 0} (p : X → Bool) where
  -- ---- a mask holds a bit for each element of a run

  some_bit : (b : Bool) (m n l : ℕ) → 0 < cond b 1 0 + 2 * m → (0 < m → n < l) → cond (not b) (1 + n) 0 < suc l
  some_bit true m n l some f = omega arith
  some_bit false m n l some f = omega (arith, f (omega arith))

  some_passes : (xs : List X) → 0 < mask_l (map p xs) → position_or_len p xs < length xs
  some_passes [] some = absurd (omega arith)
  some_passes (x ∷ xs) some =
      some_bit (p x) (mask_l (map p xs)) (position_or_len p xs) (length xs) some (some_passes xs)

  -- the lowest bit that is set is that of the first element that passes
  pub first_marked : (xs : List X) (marks : ℕ) → length xs ≤ 64 → marks ≡ mask_l (map p xs) → 0 < marks
      → Some (count_trailing_zeros 64 marks) ≡ position p xs
  first_marked xs marks few e some =
      let found : 0 < mask_l (map p xs) = omega (arith, e) in
      ap (λ m. Some (count_trailing_zeros 64 m)) e ∙ ap Some (trailing_mask_l p 64 xs few found)
      ∙ sym (cond-true _ _ _ (lt-ltb _ _ (some_passes xs found)))

  -- ---- from one run to the next

  -- no element before this place passes
  pub record IsSoughtFrom (xs : List X) (at : ℕ) : Type 0 where
    pub within : at ≤ length xs
    pub onward : position_or_len p xs ≡ at + position_or_len p (drop at xs)

  -- nor one of the n from there on
  pub sought_on : (xs : List X) (at n : ℕ) → IsSoughtFrom xs at → at + n ≤ length xs
      → position p (take n (drop at xs)) ≡ None → IsSoughtFrom xs (at + n)
  sought_on xs at n sought room e =
      let rest = drop at xs in
      let run = take n rest in
      let long : length run ≡ n = length-take-le n rest (omega (arith, length-drop at xs)) in
      let none : length run ≤ position_or_len p run = ltb-false _ _ (no_position _ _ e) in
      let all : position_or_len p run ≡ length run =
      omega (arith, none, prefix_len-le-length (λ x. not (p x)) run) in
      let step : position_or_len p rest ≡ length run + position_or_len p (drop n rest) =
      ap (position_or_len p) (sym (take-append-drop n rest))
      ∙ prefix_len-append (λ x. not (p x)) run (drop n rest)
      ∙ cond-true _ _ _ (eq-eqb (position_or_len p run) (length run) all) in
      let same = ap (position_or_len p) (drop-drop n at xs) in
      record { within = room; onward = omega (arith, sought.onward, step, same, long) }
