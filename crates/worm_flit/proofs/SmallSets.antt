-- Small sets: what a write of one number makes of them.
use Rattle.std.proofs.Common.{◌≡◌, ℕ, ◌*◌, ◌%◌, ◌^◌, ◌<◌, ◌-◌, inl, inr, true, false, ◌==◌, bit_and}
use Rattle.std.proofs.Common.{bit_or, ap, ◌∙◌, arith, not, ◌&&◌}
use Rattle.std.specs.Int.{bit_at, bit_not, trailing_zeros, w8}
use Rattle.std.proofs.lemmas.Bool.{cases_eq, cases_lt, eq-eqb, eqb-true}
use Rattle.std.proofs.lemmas.Nat.Bits.{bit_at_set_same, bit_at_set_other, bit_at_clear_same, bit_at_clear_other}
use Rattle.std.proofs.lemmas.Nat.Bits.{bit_at_above, bit_at_and, bit_at_not, bit_at-lt, bit_at-trailing_zeros}
use Rattle.std.proofs.lemmas.Nat.{and_le_l}
use Rattle.worm_flit.specs.SmallSet.{has, IsFirst, IsPut}
use Rattle.worm_flit.proofs.BitTests.{bit_unset, both_set, turned}
use Rattle.worm_flit.proofs.LowestBit.{lowest_cleared}

-- no number is in a set that is tested to be empty
pub has_none : (set p : ℕ) → (set == 0) ≡ true → has set p ≡ false
has_none set p e = ap (λ s. has s p) (eqb-true set 0 e) ∙ bit_unset 0 p (bit_at_above 0 0 p (omega arith) (omega arith))

-- a set that is not empty has a number
pub some_number : (bits : ℕ) → bits < 2 ^ 8 → (bits == 0) ≡ false → (p : ℕ) × (p < 8) × (has bits p ≡ true)
some_number bits fits some =
    let lowest = bit_at-trailing_zeros w8 bits (grind arith) fits in (
      trailing_zeros w8 bits,
      elim (cases_lt (trailing_zeros w8 bits) 8) [
        | inl below ↦ below
        | inr above ↦
            let none : bit_at bits (trailing_zeros w8 bits) ≡ 0 =
            bit_at_above bits 8 (trailing_zeros w8 bits) fits above in
            let one = lowest.1 in absurd (omega arith)
      ],
      eq-eqb _ 1 lowest.1,
    )

pub put_in : (bits n : ℕ) → n < 8 → IsPut bits (bit_or bits (1 * 2 ^ n % 2 ^ 8)) n true
put_in bits n within = record {
  here = eq-eqb _ 1 (bit_at_set_same w8 bits n (omega arith));
  elsewhere = λ p _ apart. ap (λ b. b == 1) (bit_at_set_other w8 bits n (omega arith) p (λ e. apart (omega arith)));
}

pub put_out : (bits n : ℕ) → n < 8 → IsPut bits (bit_and bits (bit_not w8 (1 * 2 ^ n % 2 ^ 8))) n false
put_out bits n within = record {
  here = bit_unset _ _ (bit_at_clear_same w8 bits n (omega arith));
  elsewhere = λ p p_in apart. ap (λ b. b == 1)
      (bit_at_clear_other w8 bits n (omega arith) p (omega arith) (λ e. apart (omega arith)));
}

-- the least number

first_cleared : (bits : ℕ) → 0 < bits → bits < 2 ^ 8
    → IsFirst bits (bit_and bits (bit_not w8 (1 * 2 ^ trailing_zeros w8 bits % 2 ^ 8))) (trailing_zeros w8 bits)
first_cleared bits some fits = record {
  in_range = lowest.0;
  was_in = eq-eqb _ 1 lowest.1;
  none_before = λ p before. bit_unset bits p (lowest.2 p (omega arith));
  taken = put_out bits (trailing_zeros w8 bits) lowest.0;
  fewer =
      let below = and_le_l bits (bit_not w8 (1 * 2 ^ trailing_zeros w8 bits % 2 ^ 8)) in
      elim (cases_eq (bit_and bits (bit_not w8 (1 * 2 ^ trailing_zeros w8 bits % 2 ^ 8))) bits) [
        | inl e ↦ let gone = bit_at_clear_same w8 bits (trailing_zeros w8 bits) lowest.0 in let kept =
            ap (λ n. bit_at n (trailing_zeros w8 bits)) e in absurd (omega (arith, lowest.1))
        | inr ne ↦ omega arith
      ];
} where
  lowest : (trailing_zeros w8 bits < 8) × (bit_at bits (trailing_zeros w8 bits) ≡ 1) × ((i : ℕ)
      → i < trailing_zeros w8 bits → bit_at bits i ≡ 0)
  lowest = bit_at-trailing_zeros w8 bits some fits

pub first_taken : (bits : ℕ) → 0 < bits → bits < 2 ^ 8
    → IsFirst bits (bit_and bits (bits - 1)) (trailing_zeros w8 bits)
first_taken bits some fits = rw (lowest_cleared w8 bits some fits) (first_cleared bits some fits)

-- two sets

pub has_first_alone : (a b n : ℕ) → b < 2 ^ 8 → n < 8 → has (bit_and a (bit_not w8 b)) n ≡ (has a n && not (has b n))
has_first_alone a b n fits within =
    ap (λ x. x == 1) (bit_at_and a (bit_not w8 b) n)
    ∙ both_set (bit_at a n) (bit_at (bit_not w8 b) n) (bit_at-lt a n) (bit_at-lt (bit_not w8 b) n)
    ∙ ap (λ t. has a n && t) (ap (λ x. x == 1) (bit_at_not w8 b n fits within)
    ∙ turned (bit_at b n) (bit_at-lt b n))
