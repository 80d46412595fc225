-- Tests of bits: what is set of one, of two, and of one turned round.
use Rattle.std.proofs.Common.{◌≡◌, ℕ, ◌-◌, ◌<◌, true, false, ◌==◌, not, ◌&&◌, min, sym, ap, ◌∙◌, arith, inl, inr}
use Rattle.std.specs.Int.{bit_at}
use Rattle.std.proofs.lemmas.Bool.{cases_eq, eq-eqb, ne_eqb, and_from, and_right}

-- a bit that is set passes
pub bit_set : (n i : ℕ) → bit_at n i ≡ 1 → (bit_at n i == 1) ≡ true
bit_set n i e = eq-eqb (bit_at n i) 1 e

-- a bit that is not set does not pass
pub bit_unset : (n i : ℕ) → bit_at n i ≡ 0 → (bit_at n i == 1) ≡ false
bit_unset n i e = ne_eqb (bit_at n i) 1 (λ one. absurd (omega arith))

-- the lower of two bits is set where both are
pub both_set : (x y : ℕ) → x < 2 → y < 2 → (min x y == 1) ≡ ((x == 1) && (y == 1))
both_set x y lx ly = elim (cases_eq x 1) [
  | inl ex ↦ elim (cases_eq y 1) [
    | inl ey ↦ eq-eqb (min x y) 1 (omega arith) ∙ sym (and_from (x == 1) (y == 1) (eq-eqb x 1 ex) (eq-eqb y 1 ey))
    | inr ny ↦ ne_eqb (min x y) 1 (λ e. ny (omega arith)) ∙ sym (and_right (x == 1) (y == 1) (ne_eqb y 1 ny))
  ]
  | inr nx ↦ ne_eqb (min x y) 1 (λ e. nx (omega arith)) ∙ sym (ap (λ t. t && (y == 1)) (ne_eqb x 1 nx))
]

-- a bit turned round is set where it was not
pub turned : (y : ℕ) → y < 2 → ((1 - y) == 1) ≡ not (y == 1)
turned y ly = elim (cases_eq y 1) [
  | inl e ↦ ne_eqb (1 - y) 1 (λ one. absurd (omega arith)) ∙ ap not (sym (eq-eqb y 1 e))
  | inr ne ↦ eq-eqb (1 - y) 1 (omega arith) ∙ ap not (sym (ne_eqb y 1 ne))
]
