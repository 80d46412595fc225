-- That a class owns a channel: as a test of the class's range, and as the channel's one owner.
use Rattle.std.proofs.Common.{◌≡◌, ℕ, zero, suc, ◌+◌, ◌-◌, ◌<◌, ◌≤◌, ◌&&◌, ◌⊎◌, drop, nat_lt, nat_le, true, false, inl}
use Rattle.std.proofs.Common.{inr, List, [], ◌∷◌, length, take, sum, get_or, refl, arith, ap}
use Rattle.std.proofs.lemmas.List.Sums.{sum_by-cons}
use Rattle.worm_flit.specs.Channels.{first_channel, owner_of, owns}

within_true : (a b d : ℕ) → a ≤ b → b < d → (nat_le a b && nat_lt b d) ≡ true
within_true a b d p q = grind arith

within_low : (a b d : ℕ) → (nat_le a b && nat_lt b d) ≡ true → a ≤ b
within_low a b d e = grind arith

within_high : (a b d : ℕ) → (nat_le a b && nat_lt b d) ≡ true → b < d
within_high a b d e = grind arith

below_cases : (a b : ℕ) → ((nat_lt a b ≡ true) × (a < b)) ⊎ ((nat_lt a b ≡ false) × (b ≤ a))
below_cases a b = grind arith

first_more : (n : ℕ) (ns : List ℕ) (class : ℕ) → first_channel (n ∷ ns) (suc class) ≡ n + first_channel ns class
first_more n ns class = sum_by-cons (λ (x : ℕ). x) n (take class ns)

owned : (counts : List ℕ) (class c : ℕ) → first_channel counts class ≤ c
    → c < first_channel counts class + get_or counts class 0 → owner_of counts c ≡ class
owned [] zero c low high = absurd (omega arith)
owned [] (suc class) c low high = absurd (omega arith)
owned (n ∷ ns) zero c low high = let below : nat_lt c n ≡ true = grind arith in rw below refl
owned (n ∷ ns) (suc class) c low high =
    let more = first_more n ns class in
    let past : nat_lt c n ≡ false = grind arith in
    rw past (ap suc (owned ns class (c - n) (omega arith) (omega arith)))

owning : (counts : List ℕ) (c : ℕ) → c < sum counts
    → (first_channel counts (owner_of counts c) ≤ c)
    × (c < first_channel counts (owner_of counts c) + get_or counts (owner_of counts c) 0)
owning [] c there = absurd (omega arith)
owning (n ∷ ns) c there =
    let whole : sum (n ∷ ns) ≡ n + sum ns = sum_by-cons (λ (x : ℕ). x) n ns in
    elim (below_cases c n) [
      | inl below ↦ let less = below.1 in rw below.0 (omega arith, omega arith)
      | inr past ↦
          let more = past.1 in
          let rest = owning ns (c - n) (omega arith) in
          let low = rest.0 in
          let high = rest.1 in
          rw (past.0, first_more n ns (owner_of ns (c - n))) (omega arith, omega arith)
    ]

-- the owner of a channel that is there is a class that is there
pub owner-class : (counts : List ℕ) (c : ℕ) → c < sum counts → owner_of counts c < length counts
owner-class [] c there = absurd (omega arith)
owner-class (n ∷ ns) c there =
    let whole : sum (n ∷ ns) ≡ n + sum ns = sum_by-cons (λ (x : ℕ). x) n ns in
    elim (below_cases c n) [
      | inl below ↦ rw below.0 (omega arith)
      | inr past ↦ let more = past.1 in let rest = owner-class ns (c - n) (omega arith) in rw past.0 (omega arith)
    ]

pub owner-from_owns : (counts : List ℕ) (class c : ℕ) → owns counts class c ≡ true → owner_of counts c ≡ class
owner-from_owns counts class c e =
    owned counts class c (within_low _ _ (first_channel counts class + get_or counts class 0) e)
    (within_high (first_channel counts class) _ _ e)

pub owns-from_owner : (counts : List ℕ) (class c : ℕ) → c < sum counts → owner_of counts c ≡ class
    → owns counts class c ≡ true
owns-from_owner counts class c there e =
    let both = owning counts c there in
    rw (← e) (within_true (first_channel counts (owner_of counts c)) c _ both.0 both.1)

-- the owner of a channel, class by class
pub owner-here : (counts : List ℕ) (i c : ℕ) → i < length counts → c < get_or counts i 0
    → owner_of (drop i counts) c ≡ 0
owner-here [] i c there below = absurd (omega arith)
owner-here (n ∷ ns) zero c there below = let test : nat_lt c n ≡ true = grind arith in rw test refl
owner-here (n ∷ ns) (suc i) c there below = owner-here ns i c (omega arith) below
