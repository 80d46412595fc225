-- In a list whose numbers never fall, the elements of one number stand together.
use Rattle.std.proofs.Common.{inl, inr, ◌≡◌, ℕ, zero, suc, ◌+◌, ◌-◌, ◌<◌, ◌≤◌, ◌==◌, true, false, nat_lt, nat_le, List}
use Rattle.std.proofs.Common.{[], ◌∷◌, length, get_or, take, drop, refl, arith, ap, sym, ◌∙◌}
use Rattle.std.specs.Prelude.{filter}
use Rattle.std.specs.List.Sorted.{IsNonDecreasingBy, IsPartitionPoint}
use Rattle.std.proofs.Math.Seq.{drop-nil}
use Rattle.std.proofs.lemmas.Bool.{cases_lt}
use Rattle.std.proofs.lemmas.List.{get_or-map}
use Rattle.std.proofs.lemmas.List.Sorted.{IsNonDecreasingBy-from_all_adjacent}
use Rattle.worm_script.specs.Script.{AreInOrder, due, last_turn}
use Rattle.worm_script.specs.declared.entry.Entry.{Entry}

-- the elements of number t stand from place a to before place b
record StandsAt {X : Type 0} (n : X → ℕ) (t : ℕ) (xs : List X) (a b : ℕ) : Type 0 where
  before : (k : ℕ) (d : X) → k < a → n (get_or xs k d) < t
  from : (k : ℕ) (d : X) → a ≤ k → k < length xs → t ≤ n (get_or xs k d)
  to : (k : ℕ) (d : X) → k < b → n (get_or xs k d) ≤ t
  behind : (k : ℕ) (d : X) → b ≤ k → k < length xs → t < n (get_or xs k d)

off : (a b : ℕ) → a < b → (a == b) ≡ false
off a b below = grind arith

past : (a b : ℕ) → b < a → (a == b) ≡ false
past a b below = grind arith

at : (a b : ℕ) → a ≤ b → b ≤ a → (a == b) ≡ true
at a b below above = grind arith

take_none : {X : Type 0} (i : ℕ) → take {A = X} i [] ≡ []
take_none zero = refl
take_none (suc i) = refl

stands_part : {X : Type 0} (n : X → ℕ) (t : ℕ) (xs : List X) (a b : ℕ) → a ≤ b → StandsAt n t xs a b
    → filter (λ x. n x == t) xs ≡ take (b - a) (drop a xs)
stands_part {X} n t [] a b within stands = sym (ap (λ (xs : List X). take (b - a) xs) (drop-nil a) ∙ take_none (b - a))
stands_part n t (x ∷ xs) (suc a) zero within stands = absurd (omega arith)
stands_part {X} n t (x ∷ xs) (suc a) (suc b) within stands =
    let no_match : (n x == t) ≡ false = off (n x) t (stands.before 0 x (omega arith)) in
    let count : b - a ≡ suc b - suc a = omega arith in
    rw no_match (stands_part n t xs a b (omega arith) record {
      before = λ k d below. stands.before (suc k) d (omega arith);
      from = λ k d above below. stands.from (suc k) d (omega arith) (omega arith);
      to = λ k d below. stands.to (suc k) d (omega arith);
      behind = λ k d above below. stands.behind (suc k) d (omega arith) (omega arith);
    } ∙ ap (λ (i : ℕ). take i (drop a xs)) count)
stands_part {X} n t (x ∷ xs) zero (suc b) within stands =
    let match : (n x == t) ≡ true = at (n x) t (stands.to 0 x (omega arith))
    (stands.from 0 x (omega arith) (omega arith)) in
    let count : suc (b - 0) ≡ suc b - 0 = omega arith in
    rw match (ap (λ (ys : List X). x ∷ ys) (stands_part n t xs 0 b (omega arith) record {
      before = λ k d below. absurd (omega arith);
      from = λ k d above below. stands.from (suc k) d (omega arith) (omega arith);
      to = λ k d below. stands.to (suc k) d (omega arith);
      behind = λ k d above below. stands.behind (suc k) d (omega arith) (omega arith);
    }) ∙ ap (λ (i : ℕ). take i (x ∷ xs)) count)
stands_part {X} n t (x ∷ xs) zero zero within stands =
    let no_match : (n x == t) ≡ false = past (n x) t (stands.behind 0 x (omega arith) (omega arith)) in
    rw no_match (stands_part n t xs 0 0 (omega arith) record {
      before = λ k d below. absurd (omega arith);
      from = λ k d above below. stands.from (suc k) d (omega arith) (omega arith);
      to = λ k d below. absurd (omega arith);
      behind = λ k d above below. stands.behind (suc k) d (omega arith) (omega arith);
    })

stands_in_order : {X : Type 0} (n : X → ℕ) (t : ℕ) (xs : List X) (a b : ℕ) (d : X) → a ≤ length xs → b < a
    → StandsAt n t xs a b → ⊥
stands_in_order n t xs a b d within below stands =
    let low = stands.before b d below in
    let high = stands.behind b d (omega arith) (omega arith) in
    omega arith

pub less : (a b : ℕ) → nat_lt a b ≡ true → a < b
less a b e = grind arith

not_less : (a b : ℕ) → nat_lt a b ≡ false → b ≤ a
not_less a b e = grind arith

most : (a b : ℕ) → nat_le a b ≡ true → a ≤ b
most a b e = grind arith

not_most : (a b : ℕ) → nat_le a b ≡ false → b < a
not_most a b e = grind arith

-- by two searches
stands_by : {X : Type 0} (n : X → ℕ) (t : ℕ) (xs : List X) (a b : ℕ)
    → IsPartitionPoint (λ y. nat_lt (n y) t ≡ true) (λ y. nat_lt (n y) t ≡ false) xs a
    → IsPartitionPoint (λ y. nat_le (n y) t ≡ true) (λ y. nat_le (n y) t ≡ false) xs b → StandsAt n t xs a b
stands_by n t xs a b first next = record {
  before = λ k d below. less _ t (first.0 k d (omega arith) below);
  from = λ k d above below. not_less _ t (first.1 k d above below);
  to = λ k d below. most _ t (next.0 k d (omega arith) below);
  behind = λ k d above below. not_most _ t (next.1 k d above below);
}

-- the turns of a script never fall
pub turns_rise : (entries : List Entry) → AreInOrder entries → IsNonDecreasingBy (λ (e : Entry). e.turn) entries
turns_rise entries in_order =
    IsNonDecreasingBy-from_all_adjacent (λ (e : Entry). e.turn) entries
    (λ k d below.
    let here = get_or-map (λ (e : Entry). e.turn) entries k d 0 (omega arith) in
    let next = get_or-map (λ (e : Entry). e.turn) entries (k + 1) d 0 below in
    let rises = in_order k below in
    omega arith)

places_rise : {X : Type 0} (n : X → ℕ) (t : ℕ) (xs : List X) (a b : ℕ) → a ≤ length xs → StandsAt n t xs a b → a ≤ b
places_rise n t [] a b within stands = omega arith
places_rise n t (x ∷ xs) a b within stands = elim (cases_lt b a) [
  | inl below ↦ absurd (stands_in_order n t (x ∷ xs) a b x within below stands)
  | inr above ↦ above
]

-- those of a turn stand between the places that two searches find
pub part_of_turn : {X : Type 0} (n : X → ℕ) (xs : List X) (turn a b : ℕ) → a ≤ length xs
    → IsPartitionPoint (λ x. nat_lt (n x) turn ≡ true) (λ x. nat_lt (n x) turn ≡ false) xs a
    → IsPartitionPoint (λ x. nat_le (n x) turn ≡ true) (λ x. nat_le (n x) turn ≡ false) xs b
    → (a ≤ b) × (take (b - a) (drop a xs) ≡ filter (λ x. n x == turn) xs)
part_of_turn n xs turn a b within first next =
    let stands = stands_by n turn xs a b first next in
    let rise = places_rise n turn xs a b within stands in
    (rise, sym (stands_part n turn xs a b rise stands))

-- a turn behind the last entry's has none
pub none_behind : (entries : List Entry) (turn : ℕ) → AreInOrder entries → last_turn entries < turn
    → due turn entries ≡ []
none_behind entries turn in_order last =
    let rise = turns_rise entries in_order in
    let below : (k : ℕ) (d : Entry) → k < length entries → (get_or entries k d).turn < turn = λ k d there.
    let risen = rise k (length entries - 1) d (omega arith) (omega arith) in
    let end = get_or-map (λ (e : Entry). e.turn) entries (length entries - 1) d 0 (omega arith) in
    omega arith in
    let none : length entries - length entries ≡ 0 = omega arith in
    stands_part (λ (e : Entry). e.turn) turn entries (length entries) (length entries) (omega arith) record {
      before = below;
      from = λ k d above within. absurd (omega arith);
      to = λ k d within. let strictly = below k d within in omega arith;
      behind = λ k d above within. absurd (omega arith);
    } ∙ ap (λ (n : ℕ). take n (drop (length entries) entries)) none
