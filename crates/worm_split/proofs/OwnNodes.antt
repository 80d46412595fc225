-- A worker's own nodes, by rising number: between two that stand next to one another none is its own.
use Rattle.std.proofs.Common.{◌≡◌, ℕ, ◌+◌, ◌<◌, ◌≤◌, ◌%◌, ◌/◌, zero, suc, false, List, []}
use Rattle.std.proofs.Common.{◌∷◌, ◌++◌, inl, inr, refl, arith, sym, ap, ◌∙◌}
use Rattle.std.proofs.Math.Nat.{div-add-mod, mod-eq_of_lt, mul-le-mul_left}
use Rattle.std.proofs.lemmas.Bool.{cases_lt, ne_eqb}
use Rattle.std.proofs.lemmas.List.{append-nil}
use Rattle.std.proofs.lemmas.List.Elements.{filter-append}
use Rattle.std.specs.List.{range_with_len}
use Rattle.std.specs.Prelude.{filter}
use Rattle.worm_region.proofs.Passages.{range_more}
use Rattle.worm_region.specs.Owned.{owned_by}
use Rattle.worm_region.specs.declared.owner.Owner.{Owner}

-- two numbers of one remainder are a divisor apart
apart : (y n count : ℕ) → y % count ≡ n % count → y < n → y + count ≤ n
apart y n count same below = elim (cases_lt (y / count) (n / count)) [
  | inl less ↦
      let more = mul-le-mul_left {m = suc (y / count)} {n = n / count} count less in
      let low = div-add-mod y count in
      let high = div-add-mod n count in
      omega (arith, more, low, high, same)
  | inr more ↦
      let less = mul-le-mul_left {m = n / count} {n = y / count} count more in
      let low = div-add-mod y count in
      let high = div-add-mod n count in
      omega (arith, less, low, high, same, below)
]

module _ (own : Owner) where
  -- a number that is no more than a divisor below an own node's is no own node's
  pub none_near : (n y : ℕ) → n % own.workers ≡ own.worker → y < n → n < y + own.workers → owned_by own y ≡ false
  none_near n y mine below near =
      ne_eqb (y % own.workers) own.worker (λ is.
      let far = apart y n own.workers (is ∙ sym mine) below in
      absurd (omega (arith, near, far)))

  -- numbers that are no own nodes' add nothing
  pub none_more : (n m : ℕ) → n ≤ m → ((y : ℕ) → n ≤ y → y < m → owned_by own y ≡ false)
      → filter (owned_by own) (range_with_len 0 m) ≡ filter (owned_by own) (range_with_len 0 n)
  none_more n zero within none = let same : n ≡ 0 = omega (arith, within) in
      ap (λ (k : ℕ). filter (owned_by own) (range_with_len 0 k)) (sym same)
  none_more n (suc m) within none = elim (cases_lt m n) [
    | inl past ↦ let same : n ≡ suc m = omega (arith, within, past) in
        ap (λ (k : ℕ). filter (owned_by own) (range_with_len 0 k)) (sym same)
    | inr below ↦
        let count : suc m ≡ m + 1 = omega arith in
        let here : filter (owned_by own) (m ∷ []) ≡ [] = rw (none m (omega (arith, below)) (omega arith)) refl in
        ap (λ (k : ℕ). filter (owned_by own) (range_with_len 0 k)) count
        ∙ ap (λ (ns : List ℕ). filter (owned_by own) ns) (range_more m)
        ∙ filter-append (owned_by own) (range_with_len 0 m) (m ∷ [])
        ∙ ap (λ (ns : List ℕ). filter (owned_by own) (range_with_len 0 m) ++ ns) here
        ∙ append-nil (filter (owned_by own) (range_with_len 0 m))
        ∙ none_more n m (omega (arith, below)) (λ y above under. none y above (omega (arith, under)))
  ]

  -- none is below the worker's number
  pub none_before : own.worker < own.workers → filter (owned_by own) (range_with_len 0 own.worker) ≡ []
  none_before less =
      none_more 0 own.worker (omega arith) (λ y _ below.
      none_near own.worker y (mod-eq_of_lt less) below (omega (arith, less)))
