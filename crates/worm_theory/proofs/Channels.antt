-- Classes and their channels: a class's first channel is its own, and it owns what the list of counts gives it.
use Rattle.std.proofs.Common.{ℕ, zero, suc, ◌≡◌, ◌+◌, ◌-◌, ◌<◌, ◌≤◌, nat_lt, nat_le, true, List, [], ◌∷◌, length, take}
use Rattle.std.proofs.Common.{sum, get_or, arith, refl, ap, ◌∙◌}
use Rattle.std.specs.Prelude.{All}
use Rattle.std.proofs.lemmas.Bool.{and_parts, lt-ltb, le-ltb, ltb-true}
use Rattle.std.proofs.lemmas.List.Elements.{All-head, All-tail}
use Rattle.std.proofs.lemmas.List.Sums.{sum_by-cons}
use Rattle.worm_flit.specs.Channels.{first_channel, owner_of, owns}
use Rattle.worm_flit.proofs.Owners.{owner-from_owns}

abbrev IsCount : ℕ → Type 0
IsCount n = (1 ≤ n) × (n ≤ 8)

sum-more : (n : ℕ) (counts : List ℕ) → sum (n ∷ counts) ≡ n + sum counts
sum-more n counts = sum_by-cons (λ (x : ℕ). x) n counts

first-more : (n : ℕ) (counts : List ℕ) (class : ℕ)
    → first_channel (n ∷ counts) (suc class) ≡ n + first_channel counts class
first-more n counts class = sum-more n (take class counts)

pub first_owned : (counts : List ℕ) (class : ℕ) → All IsCount counts → class < length counts
    → (first_channel counts class < sum counts) × (owner_of counts (first_channel counts class) ≡ class)
first_owned [] class h lt = absurd (omega arith)
first_owned (n ∷ counts) zero h lt =
    let some = (All-head IsCount n counts h).0 in
    let below : 0 < n = omega arith in
    (omega (arith, sum-more n counts), rw (lt-ltb 0 n below) refl)
first_owned (n ∷ counts) (suc class) h lt =
    let rest = first_owned counts class (All-tail IsCount n counts h) (omega arith) in
    let later = rest.0 in
    let back : n + first_channel counts class - n ≡ first_channel counts class = omega arith in (
      omega (arith, sum-more n counts, first-more n counts class),
      ap (owner_of (n ∷ counts)) (first-more n counts class)
          ∙ rw (le-ltb (n + first_channel counts class) n (omega arith), back) (ap suc rest.1),
    )

-- a class's channels end with its count, before the last channel
ends_within : (counts : List ℕ) (class : ℕ) → first_channel counts class + get_or counts class 0 ≤ sum counts
ends_within [] zero = omega arith
ends_within [] (suc class) = omega arith
ends_within (n ∷ counts) zero = omega (arith, sum-more n counts)
ends_within (n ∷ counts) (suc class) = omega (
  arith,
  sum-more n counts,
  first-more n counts class,
  ends_within counts class,
)

pub owned_by : (counts : List ℕ) (class channel : ℕ) → owns counts class channel ≡ true
    → (channel < sum counts) × (owner_of counts channel ≡ class)
owned_by counts class channel e =
    let parts = and_parts (nat_le (first_channel counts class) channel)
    (nat_lt channel (first_channel counts class + get_or counts class 0)) e in
    let below = ltb-true channel (first_channel counts class + get_or counts class 0) parts.1 in
    (omega (arith, ends_within counts class), owner-from_owns counts class channel e)
