-- The channels of a class, as a bit for each.
use Rattle.std.proofs.Common.{◌≡◌, ℕ, zero, suc, ◌+◌, ◌-◌, ◌*◌, ◌^◌, ◌%◌, ◌<◌, ◌≤◌, ◌==◌, ◌&&◌, ◌⊎◌, inl, inr, nat_lt}
use Rattle.std.proofs.Common.{nat_le, true, false, List, slice_index, refl, arith, ap, sym, ◌∙◌}
use Rattle.std.specs.Int.{bit_at}
use Rattle.std.proofs.lemmas.Nat.{one_shl, pow_pos, pow-add}
use Rattle.std.proofs.lemmas.Nat.Bits.{bit_at_cat_low, bit_at_cat_high, bit_at_ones, bit_at_ones_above, bit_at-zero}
use Rattle.std.proofs.Math.Pow.{pow_mono}
use Rattle.worm_flit.specs.Channels.{class_bits, first_channel, owns}

either : (a b : ℕ) → (a < b) ⊎ (b ≤ a)
either a b = grind arith

bit_below : (n k c : ℕ) → c < k → bit_at ((2 ^ n - 1) * 2 ^ k) c ≡ 0
bit_below n k c low = let e : (2 ^ n - 1) * 2 ^ k + 0 ≡ (2 ^ n - 1) * 2 ^ k = omega arith in
    ap (λ x. bit_at x c) (sym e) ∙ bit_at_cat_low (2 ^ n - 1) k 0 c low ∙ bit_at-zero c

bit_from : (n k c : ℕ) → k ≤ c → bit_at ((2 ^ n - 1) * 2 ^ k) c ≡ bit_at (2 ^ n - 1) (c - k)
bit_from n k c high = let e : (2 ^ n - 1) * 2 ^ k + 0 ≡ (2 ^ n - 1) * 2 ^ k = omega arith in
    ap (λ x. bit_at x c) (sym e) ∙ bit_at_cat_high (2 ^ n - 1) k 0 c (pow_pos k) high

range_bits : (n k c : ℕ) → (bit_at ((2 ^ n - 1) * 2 ^ k) c == 1) ≡ (nat_le k c && nat_lt c (k + n))
range_bits n k c = elim (either c k) [
  | inl low ↦ let out : nat_le k c ≡ false = grind arith in rw (out, bit_below n k c low) refl
  | inr high ↦ elim (either (c - k) n) [
    | inl inside ↦
        let a : nat_le k c ≡ true = grind arith in
        let b : nat_lt c (k + n) ≡ true = grind arith in
        rw (a, b, bit_from n k c high, bit_at_ones n (c - k) inside) refl
    | inr outside ↦
        let a : nat_le k c ≡ true = grind arith in
        let b : nat_lt c (k + n) ≡ false = grind arith in
        rw (a, b, bit_from n k c high, bit_at_ones_above n (c - k) outside) refl
  ]
]

pub class_bits-owns : (counts : List ℕ) (class c : ℕ) → (bit_at (class_bits counts class) c == 1) ≡ owns counts class c
class_bits-owns counts class c = range_bits (slice_index counts class) (first_channel counts class) c

less_one : (a b : ℕ) → 0 < a → (a - 1) * b + b ≡ a * b
less_one zero b some = absurd (omega arith)
less_one (suc a) b some = let e : suc a - 1 ≡ a = omega arith in rw e (omega arith)

-- a number of ones, moved up, within eight bits
pub ones_fit : (n k : ℕ) → k + n ≤ 8 → (2 ^ n - 1) * 2 ^ k < 2 ^ 8
ones_fit n k room =
    let whole : 2 ^ n * 2 ^ k ≡ 2 ^ (n + k) = sym (pow-add 2 n k) in
    let top : 2 ^ (n + k) ≤ 2 ^ 8 = pow_mono {i = n + k} {j = 8} (omega arith) in
    let some : 0 < 2 ^ k = pow_pos k in
    let split = less_one (2 ^ n) (2 ^ k) (pow_pos n) in
    omega arith

-- the same, as sixteen bits compute it
pub ones_moved : (n k : ℕ) → k + n ≤ 8 → (1 * 2 ^ n % 65536 - 1) * 2 ^ k % 65536 ≡ (2 ^ n - 1) * 2 ^ k
ones_moved n k room =
    let one : 1 * 2 ^ n % 65536 ≡ 2 ^ n = one_shl n 16 (omega arith) in
    let fits = ones_fit n k room in
    ap (λ m. (m - 1) * 2 ^ k % 65536) one ∙ omega arith
