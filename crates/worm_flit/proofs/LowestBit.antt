-- A number and the one before it: their common bits are those of the first but its lowest.
use Rattle.std.proofs.Common.{◌≡◌, ℕ, zero, suc, ◌-◌, ◌*◌, ◌/◌, ◌%◌, ◌^◌, ◌<◌, inl, inr}
use Rattle.std.proofs.Common.{bit_and, min, sym, ap, ◌∙◌, arith}
use mir.Val.{bits}
use Rattle.std.specs.Int.{Width, bit_at, bit_not, trailing_zeros}
use Rattle.std.proofs.lemmas.Bool.{cases_eq, cases_lt}
use Rattle.std.proofs.lemmas.Nat.{and_le_l}
use Rattle.std.proofs.lemmas.Nat.Bits.{bit_at_and, bit_at_lowest, bit_at-suc, bit_at_clear_same, bit_at_clear_other}
use Rattle.std.proofs.lemmas.Nat.Bits.{bit_at-trailing_zeros, same_from_bits_below}

-- half of the number before an even one
half_before : (n : ℕ) → n % 2 ≡ 0 → (n - 1) / 2 ≡ n / 2 - 1
half_before n even = omega (arith, even)

half_before_odd : (n : ℕ) → n % 2 ≡ 1 → (n - 1) / 2 ≡ n / 2
half_before_odd n odd = omega (arith, odd)

-- the lowest bit of a number, at `t`, is not in the one before
gone_before : (t n : ℕ) → bit_at n t ≡ 1 → ((i : ℕ) → i < t → bit_at n i ≡ 0) → bit_at (n - 1) t ≡ 0
gone_before zero n one none = bit_at_lowest (n - 1) ∙ (let odd = sym (bit_at_lowest n) ∙ one in omega (arith, odd))
gone_before (suc t) n one none =
    let even : n % 2 ≡ 0 = sym (bit_at_lowest n) ∙ none 0 (omega arith) in
    bit_at-suc (n - 1) t ∙ ap (λ m. bit_at m t) (half_before n even)
    ∙ gone_before t (n / 2) (sym (bit_at-suc n t) ∙ one)
    (λ i less. sym (bit_at-suc n i) ∙ none (suc i) (omega arith))

-- the bits above it are
kept_before : (t n : ℕ) → bit_at n t ≡ 1 → ((i : ℕ) → i < t → bit_at n i ≡ 0) → (i : ℕ) → t < i
    → bit_at (n - 1) i ≡ bit_at n i
kept_before t n one none zero above = absurd (omega arith)
kept_before zero n one none (suc i) above =
    bit_at-suc (n - 1) i ∙ ap (λ m. bit_at m i) (half_before_odd n (sym (bit_at_lowest n) ∙ one)) ∙ sym (bit_at-suc n i)
kept_before (suc t) n one none (suc i) above =
    bit_at-suc (n - 1) i ∙ ap (λ m. bit_at m i) (half_before n (sym (bit_at_lowest n) ∙ none 0 (omega arith)))
    ∙ kept_before t (n / 2) (sym (bit_at-suc n t) ∙ one)
    (λ j less. sym (bit_at-suc n j) ∙ none (suc j) (omega arith)) i (omega arith)
    ∙ sym (bit_at-suc n i)

-- so to keep the common bits is to clear the lowest
pub lowest_cleared : (w : Width) (n : ℕ) → 0 < n → n < 2 ^ bits w
    → bit_and n (n - 1) ≡ bit_and n (bit_not w (1 * 2 ^ trailing_zeros w n % 2 ^ bits w))
lowest_cleared w n some fits =
    same_from_bits_below (bits w) _ _
    (let less = and_le_l n (n - 1) in omega arith)
    (let less = and_le_l n (bit_not w (1 * 2 ^ trailing_zeros w n % 2 ^ bits w)) in omega arith)
    (λ i within. bit_at_and n (n - 1) i ∙ at i within)
  where
    lowest : (trailing_zeros w n < bits w) × (bit_at n (trailing_zeros w n) ≡ 1) × ((i : ℕ)
        → i < trailing_zeros w n → bit_at n i ≡ 0)
    lowest = bit_at-trailing_zeros w n some fits

    at : (i : ℕ) → i < bits w → min (bit_at n i) (bit_at (n - 1) i)
        ≡ bit_at (bit_and n (bit_not w (1 * 2 ^ trailing_zeros w n % 2 ^ bits w))) i
    at i within = elim (cases_eq i (trailing_zeros w n)) [
      | inl here ↦
          let cleared = bit_at_clear_same w n (trailing_zeros w n) lowest.0 in
          let gone = gone_before (trailing_zeros w n) n lowest.1 lowest.2 in
          rw (here, gone, cleared) (omega arith)
      | inr away ↦
          let other = bit_at_clear_other w n (trailing_zeros w n) lowest.0 i within away in
          elim (cases_lt i (trailing_zeros w n)) [
            | inl below ↦ rw (other, lowest.2 i below) (omega arith)
            | inr from ↦ rw (other, kept_before (trailing_zeros w n) n lowest.1 lowest.2 i (omega arith)) (omega arith)
          ]
    ]
