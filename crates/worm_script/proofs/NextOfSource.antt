-- The next entry that asks a source, by its place.
use Rattle.std.proofs.Common.{◌≡◌, ◌≢◌, ℕ, zero, suc, ◌<◌, ◌≤◌, ◌==◌, true, false, List, [], ◌∷◌, length}
use Rattle.std.proofs.Common.{get_or, drop, None, Some, refl, arith, eq-eqb, add-one, ◌⊎◌}
use Rattle.std.proofs.lemmas.List.{length-map, get_or-map}
use Rattle.worm_script.specs.Script.{begun_at, lane_of, sources_of, IsNext, IsPlaceOfNext}
use Rattle.worm_script.specs.declared.entry.Entry.{Entry}

differ : (a b : ℕ) → (a ≡ b → ⊥) → (a == b) ≡ false
differ a b away = grind arith

-- none of those from a place on is a node's
none_from : (x : ℕ) (entries : List Entry) (from : ℕ)
    → ((k : ℕ) → from ≤ k → k < length entries → get_or (sources_of entries) k 0 ≢ x)
    → begun_at x (drop from entries) ≡ []
none_from x [] zero none = refl
none_from x [] (suc from) none = refl
none_from x (e ∷ es) zero none =
    let away : (lane_of e.act).src ≢ x = none 0 (omega arith) (omega arith) in
    let passed : ((lane_of e.act).src == x) ≡ false = differ (lane_of e.act).src x away in
    rw passed (none_from x es 0 (λ k above below. none (suc k) (omega arith) (omega arith)))
none_from x (e ∷ es) (suc from) none =
    none_from x es from (λ k above below. none (suc k) (omega arith) (omega arith))

-- the first of those from a place on that is a node's
first_from : (x : ℕ) (entries : List Entry) (from i : ℕ) (d : Entry) → from ≤ i → i < length entries
    → get_or (sources_of entries) i 0 ≡ x
    → ((k : ℕ) → from ≤ k → k < i → get_or (sources_of entries) k 0 ≢ x)
    → begun_at x (drop from entries) ≡ get_or entries i d ∷ begun_at x (drop (suc i) entries)
first_from x [] from i d rise below asks none = absurd (omega arith)
first_from x (e ∷ es) zero zero d rise below asks none =
    let found : ((lane_of e.act).src == x) ≡ true = eq-eqb (lane_of e.act).src x asks in
    rw found refl
first_from x (e ∷ es) zero (suc i) d rise below asks none =
    let away : (lane_of e.act).src ≢ x = none 0 (omega arith) (omega arith) in
    let passed : ((lane_of e.act).src == x) ≡ false = differ (lane_of e.act).src x away in
    rw passed (first_from x es 0 i d (omega arith) (omega arith) asks
    (λ k above before. none (suc k) (omega arith) (omega arith)))
first_from x (e ∷ es) (suc from) zero d rise below asks none = absurd (omega arith)
first_from x (e ∷ es) (suc from) (suc i) d rise below asks none =
    first_from x es from i d (omega arith) (omega arith) asks
    (λ k above before. none (suc k) (omega arith) (omega arith))

pub as_many : (entries : List Entry) → length (sources_of entries) ≡ length entries
as_many entries = length-map entries (λ (e : Entry). (lane_of e.act).src)

-- where a place holds the next one, it is what a caller is told
pub is_next : (x : ℕ) (entries : List Entry) (from i : ℕ) → from ≤ i → i < length entries
    → IsPlaceOfNext x (sources_of entries) from i → IsNext x entries from (Some i)
is_next x entries from i rise below place =
    let many = as_many entries in (
      below,
      λ e. rw add-one (first_from x entries from i e rise below (place.asks (omega arith))
          (λ k above before. place.none_before k above before (omega arith))),
    )

pub is_none : (x : ℕ) (entries : List Entry) (from i : ℕ) → length entries ≤ i
    → IsPlaceOfNext x (sources_of entries) from i → IsNext x entries from None
is_none x entries from i past place =
    let many = as_many entries in
    none_from x entries from (λ k above below. place.none_before k above (omega arith) (omega arith))

-- the source that an entry asks stands at its place
pub source_at : (entries : List Entry) (i : ℕ) (d : Entry) → i < length entries
    → get_or (sources_of entries) i 0 ≡ (lane_of (get_or entries i d).act).src
source_at entries i d below = get_or-map (λ (e : Entry). (lane_of e.act).src) entries i d 0 below

pub number_cases : (a b : ℕ) → (((a == b) ≡ true) × (a ≡ b)) ⊎ (((a == b) ≡ false) × (a ≡ b → ⊥))
number_cases a b = grind arith

-- the first that is found is the next from the start on, and where none is found there is none
pub first_is_next : (x : ℕ) (entries : List Entry) (i : ℕ) → i < length entries → get_or (sources_of entries) i 0 ≡ x
    → ((k : ℕ) → k < i → get_or (sources_of entries) k 0 ≢ x) → IsNext x entries 0 (Some i)
first_is_next x entries i below asks none =
    is_next x entries 0 i (omega arith) below (record {
      asks = λ there. asks;
      none_before = λ k above before there. none k before;
    })

pub none_is_next : (x : ℕ) (entries : List Entry) (i : ℕ) → length entries ≤ i
    → ((k : ℕ) → k < i → get_or (sources_of entries) k 0 ≢ x) → IsNext x entries 0 None
none_is_next x entries i past none =
    is_none x entries 0 i past (record {
      asks = λ there. absurd (let many = as_many entries in omega arith);
      none_before = λ k above before there. none k before;
    })
