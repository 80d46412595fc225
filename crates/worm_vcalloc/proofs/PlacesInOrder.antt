-- The places of input channels stand in the order of their lines, so that what comes first among the places wins.
use Rattle.std.proofs.Common.{◌≡◌, ℕ, suc, ◌+◌, ◌*◌, ◌-◌, ◌/◌, ◌%◌, ◌^◌, ◌<◌, ◌≤◌, Bool, Some, None, sym, ap, ◌∙◌}
use Rattle.std.proofs.Common.{subst, arith, inl, inr, mul_comm, pow_pos}
use Rattle.std.specs.Int.{bit_at, trailing_zeros, w64}
use Rattle.std.proofs.lemmas.Bool.{cases_eq, cases_lt}
use Rattle.std.proofs.lemmas.Nat.{mul-le, shr-shr}
use Rattle.std.proofs.lemmas.Nat.Bits.{bit_at-trailing_zeros, bit_at_above}
use Rattle.std.proofs.Math.Nat.{div-mul-le_self, mod-lt}
use Rattle.worm_vcalloc.specs.Arbiter.{ArbiterState, winner, line_requests, IsFirstRequester, asked_before}
use Rattle.worm_vcalloc.specs.ChannelSet.{has, IsFirstFrom}
use Rattle.worm_vcalloc.specs.Places.{line_of, arbiter_at}
use Rattle.worm_flit.proofs.BitTests.{bit_set, bit_unset}
use Rattle.worm_vcalloc.proofs.Lines.{shifted_low, shifted_high, at_line, line_of_place, line_within, line_port}
use Rattle.worm_vcalloc.proofs.SetMembers.{has-zero}
use Rattle.worm_vcalloc.proofs.Winner.{asked_ahead, asked_behind, asked_round, first_is_winner, winner_none}
use Rattle.worm_vcalloc.proofs.Winner.{winner_is_first}
use Rattle.worm_vcalloc.proofs.Winner.{winner_ahead, winner_from_low}

-- a lower port has the lower lines
port_first : (vcs x y : ℕ) → x % 8 < vcs → x / 8 < y / 8 → line_of vcs x < line_of vcs y
port_first vcs x y lx below =
    let most : suc (x / 8) * vcs ≤ y / 8 * vcs = mul-le (suc (x / 8)) vcs (y / 8) vcs below
    (omega arith) in
    let next : suc (x / 8) * vcs ≡ x / 8 * vcs + vcs = omega arith in
    omega arith

pub lines_rise : (vcs x y : ℕ) → x % 8 < vcs → x < y → line_of vcs x < line_of vcs y
lines_rise vcs x y lx below = elim (cases_eq (x / 8) (y / 8)) [
  | inl same ↦ let row = ap (λ p. p * vcs) same in omega arith
  | inr other ↦ port_first vcs x y lx (omega arith)
]

lines_keep : (vcs x y : ℕ) → x % 8 < vcs → x ≤ y → line_of vcs x ≤ line_of vcs y
lines_keep vcs x y lx upto = elim (cases_eq x y) [
  | inl same ↦ let line = ap (line_of vcs) same in omega arith
  | inr other ↦ let line = lines_rise vcs x y lx (omega arith) in omega arith
]

-- ---- the one that is asked first

-- the arbiter whose pointer stands behind the line of a place, be it behind the last
abbrev pub behind_line : ℕ → ℕ → ℕ → ArbiterState
behind_line ports vcs place = record { width = ports * vcs; pointer = line_of vcs place + 1 }

-- what is asked no later among the places is asked no later among the lines
asked_alike : (ports vcs place x y : ℕ) → place % 8 < vcs → x % 8 < vcs → y % 8 < vcs
    → x < 56 → y < 56 → line_of vcs x < ports * vcs → line_of vcs place < ports * vcs
    → asked_before (record { width = 56; pointer = place + 1 }) x
    ≤ asked_before (record { width = 56; pointer = place + 1 }) y
    → asked_before (behind_line ports vcs place) (line_of vcs x)
    ≤ asked_before (behind_line ports vcs place) (line_of vcs y)
asked_alike ports vcs place x y lp lx ly hx hy inside start before =
    elim (cases_lt x (place + 1)) [
      | inl x_behind ↦
          let x_at = asked_behind places x x_behind in
          let x_kept = lines_keep vcs x place lx (omega arith) in
          let x_line = asked_behind lines (line_of vcs x) (omega (arith, x_kept)) in
          elim (cases_lt y (place + 1)) [
            | inl y_behind ↦
                let y_at = asked_behind places y y_behind in
                let y_kept = lines_keep vcs y place ly (omega arith) in
                let y_line = asked_behind lines (line_of vcs y) (omega (arith, y_kept)) in
                let order = lines_keep vcs x y lx (omega arith) in
                omega arith
            | inr y_ahead ↦ let y_at = asked_ahead places y y_ahead in absurd (omega arith)
          ]
      | inr x_ahead ↦
          let x_at = asked_ahead places x x_ahead in
          let x_risen = lines_rise vcs place x lp (omega arith) in
          let x_line = asked_ahead lines (line_of vcs x) (omega (arith, x_risen)) in
          elim (cases_lt y (place + 1)) [
            | inl y_behind ↦
                let y_kept = lines_keep vcs y place ly (omega arith) in
                let y_line = asked_behind lines (line_of vcs y) (omega (arith, y_kept)) in
                omega arith
            | inr y_ahead ↦
                let y_at = asked_ahead places y y_ahead in
                let y_risen = lines_rise vcs place y lp (omega arith) in
                let y_line = asked_ahead lines (line_of vcs y) (omega (arith, y_risen)) in
                let order = lines_keep vcs x y lx (omega arith) in
                omega arith
          ]
    ] where
      places : ArbiterState
      places = record { width = 56; pointer = place + 1 }

      lines : ArbiterState
      lines = behind_line ports vcs place

-- the first of a set of input channels wins among their lines
pub first_wins : (ports vcs place set port vc : ℕ) (asks : ℕ → ℕ → Bool) → ports ≤ 7 → 0 < vcs
    → vcs ≤ 8 → place / 8 < ports → place % 8 < vcs → port < ports → vc < vcs
    → ((p v : ℕ) → p < ports → v < vcs → has set p v ≡ asks p v) → IsFirstFrom set (place + 1) port vc
    → Some (port * vcs + vc)
    ≡ winner (arbiter_at ports vcs place) (λ line. asks (line / vcs) (line % vcs))
first_wins ports vcs place set port vc asks few some few' lp lp' l l' same f =
    sym (first_is_winner (arbiter_at ports vcs place) _ (port * vcs + vc) (omega (arith, pointed)) (record {
      within = inside;
      requests = at_line asks port vcs vc l' ∙ sym (same port vc l l') ∙ f.first.requests;
      first = λ line below asked.
          let spot = line_port ports vcs line some below in
          let there : line / vcs * vcs + line % vcs ≡ line =
          let parts : vcs * (line / vcs) + line % vcs ≡ line = omega arith in
          let turned = mul_comm vcs (line / vcs) in omega arith in
          let mine = line_of_place vcs port vc (omega arith) in
          let other = line_of_place vcs (line / vcs) (line % vcs) (omega (arith, spot.1)) in
          let order = f.first.first (8 * (line / vcs) + line % vcs) (omega (arith, spot.0, spot.1))
          (same (line / vcs) (line % vcs) spot.0 spot.1 ∙ asked) in
          let alike = asked_alike ports vcs place (8 * port + vc) (8 * (line / vcs) + line % vcs) lp'
          (omega arith) (omega (arith, spot.1)) (omega arith) (omega (arith, spot.0, spot.1))
          (omega (arith, mine, inside))
          start order in
          let later = rw (mine, other, there) at alike in
          rw (
            asked_round (ports * vcs) (line_of vcs place) (port * vcs + vc) start inside,
            asked_round (ports * vcs) (line_of vcs place) line start below,
          ) later;
    }))
  where
    inside : port * vcs + vc < ports * vcs
    inside = line_within ports vcs port vc l l'

    start : line_of vcs place < ports * vcs
    start = line_within ports vcs (place / 8) (place % 8) lp lp'

    pointed : (line_of vcs place + 1) % (ports * vcs) < ports * vcs
    pointed = mod-lt (line_of vcs place + 1) (omega (arith, start))

-- where the set is empty nobody wins
pub none_wins : (ports vcs place set : ℕ) (asks : ℕ → ℕ → Bool) → 0 < vcs → place / 8 < ports
    → place % 8 < vcs → ((p v : ℕ) → p < ports → v < vcs → has set p v ≡ asks p v) → set ≡ 0
    → None ≡ winner (arbiter_at ports vcs place) (λ line. asks (line / vcs) (line % vcs))
none_wins ports vcs place set asks some lp lp' same empty =
    let start = line_within ports vcs (place / 8) (place % 8) lp lp' in
    let pointed : (line_of vcs place + 1) % (ports * vcs) < ports * vcs =
    mod-lt (line_of vcs place + 1) (omega arith) in
    sym (winner_none (arbiter_at ports vcs place) _ (omega arith) (λ line below.
    let spot = line_port ports vcs line some below in
    sym (same (line / vcs) (line % vcs) spot.0 spot.1)
    ∙ ap (λ s. has s (line / vcs) (line % vcs)) empty ∙ has-zero (line / vcs) (line % vcs)))

-- ---- as the code finds it

first_at : (bits place k : ℕ) → place ≤ 56 → k < 56
    → winner (record { width = 56; pointer = place }) (line_requests bits) ≡ Some k
    → IsFirstFrom bits place (k / 8) (k % 8)
first_at bits place k start inside won = record {
  port_in = omega arith;
  channel_in = omega arith;
  first =
      let same : k ≡ 8 * (k / 8) + k % 8 = omega arith in
      subst (IsFirstRequester (record { width = 56; pointer = place }) (line_requests bits)) same
      (winner_is_first (record { width = 56; pointer = place }) (line_requests bits) k (omega arith) won);
}

-- the bits before a place shifted out
abbrev pub from_place : ℕ → ℕ → ℕ
from_place bits place = bits / 2 ^ place * 2 ^ place % 2 ^ 64

from_place_is : (bits place : ℕ) → bits < 2 ^ 56 → from_place bits place ≡ bits / 2 ^ place * 2 ^ place
from_place_is bits place fits = let less = div-mul-le_self bits (2 ^ place) in omega arith

from_place_low : (bits place i : ℕ) → bits < 2 ^ 56 → i < place → bit_at (from_place bits place) i ≡ 0
from_place_low bits place i fits below =
    ap (λ n. bit_at n i) (from_place_is bits place fits) ∙ shifted_low (bits / 2 ^ place) place i below

from_place_high : (bits place i : ℕ) → bits < 2 ^ 56 → place ≤ i → bit_at (from_place bits place) i ≡ bit_at bits i
from_place_high bits place i fits above =
    let whole : place + (i - place) ≡ i = omega arith in
    ap (λ n. bit_at n i) (from_place_is bits place fits) ∙ shifted_high (bits / 2 ^ place) place i above
    ∙ ap (λ n. n % 2) (shr-shr bits place (i - place)) ∙ ap (bit_at bits) whole

pub first_ahead : (bits place : ℕ) → bits < 2 ^ 56 → place ≤ 56 → 0 < from_place bits place
    → IsFirstFrom bits place (trailing_zeros w64 (from_place bits place) / 8)
    (trailing_zeros w64 (from_place bits place) % 8)
first_ahead bits place fits start some =
    first_at bits place k start inside
    (winner_ahead (record { width = 56; pointer = place }) (line_requests bits) k above inside (bit_set bits k here)
    (λ i from below. bit_unset bits i (sym (from_place_high bits place i fits from) ∙ lowest.2 i below))) where
      k : ℕ
      k = trailing_zeros w64 (from_place bits place)

      lowest : (k < 64) × (bit_at (from_place bits place) k ≡ 1)
          × ((i : ℕ) → i < k → bit_at (from_place bits place) i ≡ 0)
      lowest = bit_at-trailing_zeros w64 (from_place bits place) some (omega arith)

      above : place ≤ k
      above = elim (cases_lt k place) [
        | inl below ↦ let none = from_place_low bits place k fits below in absurd (omega (arith, lowest.1))
        | inr ahead ↦ ahead
      ]

      here : bit_at bits k ≡ 1
      here = sym (from_place_high bits place k fits above) ∙ lowest.1

      inside : k < 56
      inside = elim (cases_lt k 56) [
        | inl low ↦ low
        | inr high ↦ let none = bit_at_above bits 56 k fits high in absurd (omega (arith, here))
      ]

zero_of_shift : (n place : ℕ) → n * 2 ^ place ≡ 0 → n ≡ 0
zero_of_shift n place e = elim (cases_eq n 0) [
  | inl none ↦ none
  | inr some ↦ let more = mul-le 1 1 n (2 ^ place) (omega arith) (pow_pos place) in absurd (omega arith)
]

pub first_behind : (bits place : ℕ) → bits < 2 ^ 56 → place ≤ 56 → 0 < bits → from_place bits place ≡ 0
    → IsFirstFrom bits place (trailing_zeros w64 bits / 8) (trailing_zeros w64 bits % 8)
first_behind bits place fits start some none =
    let gone : bits / 2 ^ place * 2 ^ place ≡ 0 = sym (from_place_is bits place fits) ∙ none in
    let past : bits / 2 ^ place ≡ 0 = zero_of_shift (bits / 2 ^ place) place gone in
    let won = winner_from_low (record { width = 56; pointer = place }) bits start (omega arith) fits past some
    (omega arith) in
    first_at bits place (trailing_zeros w64 bits) start won.1 won.0
