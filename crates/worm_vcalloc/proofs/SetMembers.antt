-- Lemmas on sets of channels: what the operations on words do to their members.
use Rattle.std.proofs.Common.{◌≡◌, ℕ, ◌+◌, ◌-◌, ◌*◌, ◌/◌, ◌%◌, ◌^◌, ◌<◌, ◌≤◌, Bool, true, false, refl, ◌==◌, not, ◌&&◌}
use Rattle.std.proofs.Common.{◌||◌, bit_and, bit_or, min, sym, ap, ◌∙◌, subst, arith, inl, inr}
use Rattle.std.specs.Int.{bit_at, bit_not, trailing_zeros, w64}
use Rattle.std.specs.Int.Bits.{or_zero_r}
use mir.Val.{bool_byte}
use Rattle.std.proofs.lemmas.Bool.{cases_eq, cases_lt, eq-eqb, eqb-true, ne_eqb, and_right}
use Rattle.std.proofs.lemmas.Bool.{true≢false}
use Rattle.std.proofs.lemmas.Nat.{one_shl, or_lt, and_le_l, and_mask, shr-shr, pow_below}
use Rattle.std.proofs.lemmas.Nat.Bits.{bit_at_and, bit_at_not, bit_at_ones, bit_at-lt, bit_at_set_same}
use Rattle.std.proofs.lemmas.Nat.Bits.{bit_at_set_other, bit_at_clear_same, bit_at_clear_other, bit_at_above}
use Rattle.std.proofs.lemmas.Nat.Bits.{bit_at-trailing_zeros}
use Rattle.std.proofs.Math.Pow.{pow_mono, shl_lt}
use Rattle.worm_vcalloc.specs.Arbiter.{line_requests}
use Rattle.worm_vcalloc.specs.ChannelSet.{has, IsPut, IsFirst, IsFirstPort, IsLowest}
use Rattle.worm_flit.proofs.BitTests.{bit_set, bit_unset, both_set, turned}
use Rattle.worm_flit.proofs.LowestBit.{lowest_cleared}
use Rattle.worm_vcalloc.proofs.Lines.{shifted_low, shifted_high}

-- ---- tests of bits

and_true : (b : Bool) → (b && true) ≡ b
and_true true = refl
and_true false = refl

-- ---- one channel

-- no channel is in the empty set
pub has-zero : (p c : ℕ) → has 0 p c ≡ false
has-zero p c = bit_unset 0 (8 * p + c) (bit_at_above 0 0 (8 * p + c) (omega arith) (omega arith))

-- nor in a set that is tested to be empty
pub has-empty : (set p c : ℕ) → (set == 0) ≡ true → has set p c ≡ false
has-empty set p c e = ap (λ s. has s p c) (eqb-true set 0 e) ∙ has-zero p c

pub put_in_fits : (bits port channel : ℕ) → bits < 2 ^ 56 → port < 7 → channel < 8
    → bit_or bits (1 * 2 ^ (8 * port + channel) % 2 ^ 64) < 2 ^ 56
put_in_fits bits port channel fits lp lc =
    let bit = one_shl (8 * port + channel) 64 (omega arith) in
    let low = pow_below (8 * port + channel) 56 (omega arith) in
    or_lt 56 bits (1 * 2 ^ (8 * port + channel) % 2 ^ 64) fits (omega arith)

pub put_in : (bits port channel : ℕ) → bits < 2 ^ 56 → port < 7 → channel < 8
    → IsPut bits (bit_or bits (1 * 2 ^ (8 * port + channel) % 2 ^ 64)) port channel true
put_in bits port channel fits lp lc = record {
  here = bit_set _ _ (bit_at_set_same w64 bits (8 * port + channel) (omega arith));
  elsewhere = λ p c _ l apart. ap (λ b. b == 1)
      (bit_at_set_other w64 bits (8 * port + channel) (omega arith) (8 * p + c)
      (λ e. apart (omega arith) (omega arith)));
  small = put_in_fits bits port channel fits lp lc;
}

pub put_out : (bits port channel : ℕ) → bits < 2 ^ 56 → port < 7 → channel < 8
    → IsPut bits (bit_and bits (bit_not w64 (1 * 2 ^ (8 * port + channel) % 2 ^ 64))) port channel false
put_out bits port channel fits lp lc = record {
  here = bit_unset _ _ (bit_at_clear_same w64 bits (8 * port + channel) (omega arith));
  elsewhere = λ p c l l' apart. ap (λ b. b == 1)
      (bit_at_clear_other w64 bits (8 * port + channel) (omega arith) (8 * p + c) (omega arith)
      (λ e. apart (omega arith) (omega arith)));
  small = let below = and_le_l bits (bit_not w64 (1 * 2 ^ (8 * port + channel) % 2 ^ 64)) in omega arith;
}

-- the place is cleared, and the channel put there where it comes
abbrev pub written : ℕ → ℕ → ℕ → ℕ
written bits place comes = bit_or (bit_and bits (bit_not w64 (1 * 2 ^ place % 2 ^ 64))) (comes * 2 ^ place % 2 ^ 64)

zero_times : (n : ℕ) → 0 * n ≡ 0
zero_times n = omega arith

pub put_as : (bits port channel : ℕ) (within : Bool) → bits < 2 ^ 56 → port < 7 → channel < 8
    → IsPut bits (written bits (8 * port + channel) (bool_byte within)) port channel within
put_as bits port channel true fits lp lc =
    let out = put_out bits port channel fits lp lc in
    let both = put_in (bit_and bits (bit_not w64 (1 * 2 ^ (8 * port + channel) % 2 ^ 64))) port channel out.small lp
    lc in
    record {
      here = both.here;
      elsewhere = λ p c l l' apart. both.elsewhere p c l l' apart
          ∙ out.elsewhere p c l l' apart;
      small = both.small;
    }
put_as bits port channel false fits lp lc =
    let nothing : 0 * 2 ^ (8 * port + channel) % 2 ^ 64 ≡ 0 =
    ap (λ n. n % 2 ^ 64) (zero_times (2 ^ (8 * port + channel))) in
    subst (λ n. IsPut bits n port channel false)
    (sym (ap (bit_or (bit_and bits (bit_not w64 (1 * 2 ^ (8 * port + channel) % 2 ^ 64)))) nothing
    ∙ or_zero_r (bit_and bits (bit_not w64 (1 * 2 ^ (8 * port + channel) % 2 ^ 64)))))
    (put_out bits port channel fits lp lc)

-- ---- a bit that is written only one way

unchanged : (bits port channel : ℕ) (within : Bool) → bits < 2 ^ 56 → has bits port channel ≡ within
    → IsPut bits bits port channel within
unchanged bits port channel within fits is = record {
  here = is;
  elsewhere = λ p c l l' apart. refl;
  small = fits;
}

or_true : (b : Bool) → true ≡ (b || true)
or_true true = refl
or_true false = refl

or_false : (b : Bool) → b ≡ (b || false)
or_false true = refl
or_false false = refl

all_kept : (bits : ℕ) → bits < 2 ^ 56 → bit_and bits (bit_not w64 0) ≡ bits
all_kept bits fits = and_mask bits 64 ∙ (let low : bits % 2 ^ 64 ≡ bits = omega arith in low)

-- the bit of the place is set where `comes` is 1
abbrev with_place : ℕ → ℕ → ℕ → ℕ
with_place bits place comes = bit_or bits (comes * 2 ^ place % 2 ^ 64)

-- the bit of the place is cleared where `goes` is 1
abbrev without_place : ℕ → ℕ → ℕ → ℕ
without_place bits place goes = bit_and bits (bit_not w64 (goes * 2 ^ place % 2 ^ 64))

-- the channel is put in where it comes
put_where : (bits port channel : ℕ) (comes : Bool) → bits < 2 ^ 56 → port < 7 → channel < 8
    → IsPut bits (with_place bits (8 * port + channel) (bool_byte comes)) port channel (has bits port channel || comes)
put_where bits port channel true fits lp lc =
    subst (IsPut bits (with_place bits (8 * port + channel) 1) port channel) (or_true (has bits port channel))
    (put_in bits port channel fits lp lc)
put_where bits port channel false fits lp lc =
    let same : with_place bits (8 * port + channel) 0 ≡ bits =
    ap (λ n. bit_or bits (n % 2 ^ 64)) (zero_times (2 ^ (8 * port + channel))) ∙ or_zero_r bits in
    subst (λ n. IsPut bits n port channel (has bits port channel || false)) (sym same)
    (unchanged bits port channel (has bits port channel || false) fits (or_false (has bits port channel)))

-- the channel is taken out where it goes
taken_where : (bits port channel : ℕ) (goes : Bool) → bits < 2 ^ 56 → port < 7 → channel < 8
    → IsPut bits (without_place bits (8 * port + channel) (bool_byte goes)) port channel
    (has bits port channel && not goes)
taken_where bits port channel true fits lp lc =
    subst (IsPut bits (without_place bits (8 * port + channel) 1) port channel)
    (sym (and_right (has bits port channel) false refl)) (put_out bits port channel fits lp lc)
taken_where bits port channel false fits lp lc =
    let same : without_place bits (8 * port + channel) 0 ≡ bits =
    ap (λ n. bit_and bits (bit_not w64 (n % 2 ^ 64))) (zero_times (2 ^ (8 * port + channel))) ∙ all_kept bits fits in
    subst (λ n. IsPut bits n port channel (has bits port channel && true)) (sym same)
    (unchanged bits port channel (has bits port channel && true) fits (sym (and_true (has bits port channel))))

-- by the number that the code makes of whether it comes or goes
pub put_by : (bits port channel n : ℕ) (comes : Bool) → n ≡ bool_byte comes → bits < 2 ^ 56 → port < 7 → channel < 8
    → IsPut bits (with_place bits (8 * port + channel) n) port channel (has bits port channel || comes)
put_by bits port channel n comes is fits lp lc =
    subst (λ k. IsPut bits (with_place bits (8 * port + channel) k) port channel (has bits port channel || comes))
    (sym is) (put_where bits port channel comes fits lp lc)

pub taken_by : (bits port channel n : ℕ) (goes : Bool) → n ≡ bool_byte goes → bits < 2 ^ 56 → port < 7 → channel < 8
    → IsPut bits (without_place bits (8 * port + channel) n) port channel (has bits port channel && not goes)
taken_by bits port channel n goes is fits lp lc =
    subst (λ k. IsPut bits (without_place bits (8 * port + channel) k) port channel (has bits port channel && not goes))
    (sym is) (taken_where bits port channel goes fits lp lc)

-- ---- two sets

pub has_both : (a b p c : ℕ) → has (bit_and a b) p c ≡ (has a p c && has b p c)
has_both a b p c =
    ap (λ x. x == 1) (bit_at_and a b (8 * p + c))
    ∙ both_set (bit_at a (8 * p + c)) (bit_at b (8 * p + c)) (bit_at-lt a (8 * p + c)) (bit_at-lt b (8 * p + c))

pub has_first_alone : (a b p c : ℕ) → b < 2 ^ 64 → p < 7 → c < 8
    → has (bit_and a (bit_not w64 b)) p c ≡ (has a p c && not (has b p c))
has_first_alone a b p c fits lp lc =
    has_both a (bit_not w64 b) p c
    ∙ ap (λ t. has a p c && t) (ap (λ x. x == 1) (bit_at_not w64 b (8 * p + c) fits (omega arith))
    ∙ turned (bit_at b (8 * p + c)) (bit_at-lt b (8 * p + c)))

-- ---- the first channel

-- the lowest bit of a set stands for a channel
pub lowest_within : (bits : ℕ) → 0 < bits → bits < 2 ^ 56 → trailing_zeros w64 bits < 56
lowest_within bits some fits =
    let lowest = bit_at-trailing_zeros w64 bits some (omega arith) in
    elim (cases_lt (trailing_zeros w64 bits) 56) [
      | inl l ↦ l
      | inr g ↦ let none = bit_at_above bits 56 (trailing_zeros w64 bits) fits g in absurd (omega (arith, lowest.1))
    ]

first_cleared : (bits : ℕ) → 0 < bits → bits < 2 ^ 56
    → IsFirst bits (bit_and bits (bit_not w64 (1 * 2 ^ trailing_zeros w64 bits % 2 ^ 64))) (trailing_zeros w64 bits / 8)
    (trailing_zeros w64 bits % 8)
first_cleared bits some fits = record {
  port_in = let low = within in omega arith;
  channel_in = omega arith;
  was_in = ap (λ i. bit_at bits i == 1) same ∙ bit_set bits (trailing_zeros w64 bits) lowest.1;
  none_before = λ p c l before. bit_unset bits (8 * p + c) (lowest.2 (8 * p + c) (omega arith));
  taken =
      subst (λ i. IsPut bits (bit_and bits (bit_not w64 (1 * 2 ^ i % 2 ^ 64))) (trailing_zeros w64 bits / 8)
      (trailing_zeros w64 bits % 8) false) same
      (put_out bits (trailing_zeros w64 bits / 8) (trailing_zeros w64 bits % 8) fits (let low = within in
      omega arith) (omega arith));
  fewer =
      let below = and_le_l bits (bit_not w64 (1 * 2 ^ trailing_zeros w64 bits % 2 ^ 64)) in
      elim (cases_eq (bit_and bits (bit_not w64 (1 * 2 ^ trailing_zeros w64 bits % 2 ^ 64))) bits) [
        | inl e ↦ let gone = bit_at_clear_same w64 bits (trailing_zeros w64 bits) lowest.0 in let kept =
            ap (λ n. bit_at n (trailing_zeros w64 bits)) e in absurd (omega (arith, lowest.1))
        | inr ne ↦ omega arith
      ];
} where
  within : trailing_zeros w64 bits < 56
  within = lowest_within bits some fits

  lowest : (trailing_zeros w64 bits < 64) × (bit_at bits (trailing_zeros w64 bits) ≡ 1) × ((i : ℕ)
      → i < trailing_zeros w64 bits → bit_at bits i ≡ 0)
  lowest = bit_at-trailing_zeros w64 bits some (omega arith)

  same : 8 * (trailing_zeros w64 bits / 8) + trailing_zeros w64 bits % 8 ≡ trailing_zeros w64 bits
  same = omega arith

pub first_taken : (bits : ℕ) → 0 < bits → bits < 2 ^ 56
    → IsFirst bits (bit_and bits (bits - 1)) (trailing_zeros w64 bits / 8) (trailing_zeros w64 bits % 8)
first_taken bits some fits = rw (lowest_cleared w64 bits some (omega arith)) (first_cleared bits some fits)

-- what is in the set still was in it before
pub was_in : (old new port channel p c : ℕ) → IsPut old new port channel false → p < 7 → c < 8
    → has new p c ≡ true → has old p c ≡ true
was_in old new port channel p c put lp lc still = elim (cases_eq p port) [
  | inl same ↦ elim (cases_eq c channel) [
    | inl same' ↦ absurd (true≢false (sym still ∙ ap (λ k. has new k c) same ∙ ap (has new port) same' ∙ put.here))
    | inr other ↦ sym (put.elsewhere p c lp lc (λ _ e. other e)) ∙ still
  ]
  | inr other ↦ sym (put.elsewhere p c lp lc (λ e _. other e)) ∙ still
]

-- ---- the first port

-- all channels of one port
port_mask : (port : ℕ) → port < 7 → 255 * 2 ^ (8 * port) % 2 ^ 64 ≡ 255 * 2 ^ (8 * port)
port_mask port l =
    let high : 255 * 2 ^ (8 * port) < 2 ^ (8 + 8 * port) = shl_lt 8 (8 * port) (omega arith) in
    let within : 8 + 8 * port ≤ 64 = omega arith in
    let most : 2 ^ (8 + 8 * port) ≤ 2 ^ 64 = pow_mono within in
    omega arith

has-port_mask : (port p c : ℕ) → c < 8 → has (255 * 2 ^ (8 * port)) p c ≡ (p == port)
has-port_mask port p c lc = elim (cases_eq p port) [
  | inl same ↦
      bit_set _ _ (shifted_high 255 (8 * port) (8 * p + c) (omega arith)
      ∙ bit_at_ones 8 (8 * p + c - 8 * port) (omega arith))
      ∙ sym (eq-eqb p port same)
  | inr other ↦
      bit_unset _ _ (elim (cases_lt p port) [
        | inl below ↦ shifted_low 255 (8 * port) (8 * p + c) (omega arith)
        | inr above ↦ shifted_high 255 (8 * port) (8 * p + c) (omega arith)
            ∙ bit_at_above 255 8 (8 * p + c - 8 * port) (omega arith) (omega arith)
      ])
      ∙ sym (ne_eqb p port other)
]

pub port_taken : (bits : ℕ) → 0 < bits → bits < 2 ^ 56
    → IsFirstPort bits (bit_and bits (bit_not w64 (255 * 2 ^ (8 * (trailing_zeros w64 bits / 8)) % 2 ^ 64)))
    (trailing_zeros w64 bits / 8)
port_taken bits some fits = record {
  port_in = port_in;
  some_in = (trailing_zeros w64 bits % 8, omega arith, here);
  none_before = λ p c l l'. bit_unset bits (8 * p + c) (lowest.2 (8 * p + c) (omega arith));
  taken = λ c l. left port c port_in l ∙ and_right (has bits port c) (not (port == port))
      (ap not (eq-eqb port port refl));
  elsewhere = λ p c l l' other. left p c l l' ∙ ap (λ b. has bits p c && not b) (ne_eqb p port other)
      ∙ and_true (has bits p c);
  fewer =
      let below = and_le_l bits (bit_not w64 (255 * 2 ^ (8 * port) % 2 ^ 64)) in
      elim (cases_eq (bit_and bits (bit_not w64 (255 * 2 ^ (8 * port) % 2 ^ 64))) bits) [
        | inl e ↦
            let gone = left port (trailing_zeros w64 bits % 8) port_in (omega arith)
            ∙ and_right (has bits port (trailing_zeros w64 bits % 8)) (not (port == port))
            (ap not (eq-eqb port port refl)) in
            absurd (true≢false (sym here ∙ sym (ap (λ n. has n port (trailing_zeros w64 bits % 8)) e) ∙ gone))
        | inr ne ↦ omega arith
      ];
} where
  port : ℕ
  port = trailing_zeros w64 bits / 8

  lowest : (trailing_zeros w64 bits < 64) × (bit_at bits (trailing_zeros w64 bits) ≡ 1) × ((i : ℕ)
      → i < trailing_zeros w64 bits → bit_at bits i ≡ 0)
  lowest = bit_at-trailing_zeros w64 bits some (omega arith)

  port_in : trailing_zeros w64 bits / 8 < 7
  port_in = let within = lowest_within bits some fits in omega arith

  same : 8 * (trailing_zeros w64 bits / 8) + trailing_zeros w64 bits % 8 ≡ trailing_zeros w64 bits
  same = omega arith

  here : has bits (trailing_zeros w64 bits / 8) (trailing_zeros w64 bits % 8) ≡ true
  here = ap (λ i. bit_at bits i == 1) same ∙ bit_set bits (trailing_zeros w64 bits) lowest.1

  left : (p c : ℕ) → p < 7 → c < 8 → has
      (bit_and bits (bit_not w64 (255 * 2 ^ (8 * (trailing_zeros w64 bits / 8)) % 2 ^ 64))) p c
      ≡ (has bits p c && not (p == (trailing_zeros w64 bits / 8)))
  left p c l l' =
      ap (λ m. has (bit_and bits (bit_not w64 m)) p c) (port_mask (trailing_zeros w64 bits / 8) port_in)
      ∙ has_first_alone bits (255 * 2 ^ (8 * (trailing_zeros w64 bits / 8))) p c
      (let e = port_mask (trailing_zeros w64 bits / 8) port_in in omega arith) l l'
      ∙ ap (λ b. has bits p c && not b) (has-port_mask (trailing_zeros w64 bits / 8) p c l')

-- its lowest channel is that of the lowest bit
pub lowest_of_port : (bits : ℕ) → 0 < bits → bits < 2 ^ 56
    → IsLowest bits (trailing_zeros w64 bits / 8) (trailing_zeros w64 bits % 8)
lowest_of_port bits some fits =
    let first = first_cleared bits some fits in
    record {
      channel_in = first.channel_in;
      is_in = first.was_in;
      none_below = λ c below. first.none_before (trailing_zeros w64 bits / 8) c (omega arith) (omega arith);
    }

-- ---- rows

-- the row of a port, as lines
pub row_lines : (bits port vcs channel : ℕ) → vcs ≤ 8 → channel < vcs
    → line_requests (bit_and (bits / 2 ^ (8 * port)) (1 * 2 ^ vcs % 2 ^ 64 - 1)) channel ≡ has bits port channel
row_lines bits port vcs channel few l =
    let ones : 1 * 2 ^ vcs % 2 ^ 64 ≡ 2 ^ vcs = one_shl vcs 64 (omega arith) in
    ap (λ m. bit_at (bit_and (bits / 2 ^ (8 * port)) (m - 1)) channel == 1) ones
    ∙ ap (λ b. b == 1) (bit_at_and (bits / 2 ^ (8 * port)) (2 ^ vcs - 1) channel)
    ∙ ap (λ y. min (bit_at (bits / 2 ^ (8 * port)) channel) y == 1) (bit_at_ones vcs channel l)
    ∙ ap (λ b. b == 1) (let one = bit_at-lt (bits / 2 ^ (8 * port)) channel in
    let e : min (bit_at (bits / 2 ^ (8 * port)) channel) 1
    ≡ bit_at (bits / 2 ^ (8 * port)) channel = omega arith in e)
    ∙ ap (λ n. (n % 2) == 1) (shr-shr bits (8 * port) channel)
