-- What is on one way of a link, by an inbox's port and the list behind it.
use Rattle.std.proofs.Common.{◌≡◌, ℕ, ◌<◌, ◌≤◌, Bool, true, false, cond, List, [], ◌∷◌, ◌++◌, length}
use Rattle.std.proofs.Common.{Option, Some, None}
use Rattle.std.proofs.Common.{refl, subst, zero, suc, get_or}
use Rattle.std.proofs.Common.{arith, ap, sym, ◌∙◌, drop}
use Rattle.std.specs.Prelude.{slice_get, IsSome}
use Rattle.worm_wires.specs.Arrivals.{has_front}
use Rattle.worm_wires.specs.Inbox.{IsWay, whole}

pub no_front : {A : Type 0} (xs : List A) → has_front xs ≡ false → xs ≡ []
no_front [] none = refl
no_front (x ∷ xs) none = absurd (cc)

-- of one whose link has no list, the list is empty
pub not_listed : {A : Type 0} (here more : Bool) (front : Option A) (list : List A) (room : ℕ)
    → IsWay here more front list room → more ≡ false → list ≡ []
not_listed here more front list room way none = no_front list (sym way.listed ∙ none)

-- of one whose link has a list, that is all of it
pub all_listed : {A : Type 0} (here more : Bool) (front : Option A) (list : List A) (room : ℕ)
    → IsWay here more front list room → more ≡ true → whole here front list ≡ list
all_listed here more front [] room way some = absurd (cc)
all_listed here more front (x ∷ xs) room way some = refl

-- one comes in where the inbox says so
pub comes_by : {A : Type 0} (here more : Bool) (front : Option A) (list : List A) (room : ℕ)
    → IsWay here more front list room → has_front (whole here front list) ≡ here
comes_by true more None [] room way = let alone = (way.alone refl refl).1 in absurd (cc)
comes_by true more (Some x) [] room way = refl
comes_by false more front [] room way = refl
comes_by here more front (x ∷ xs) room way = sym (way.first refl).0

-- and the first is the inbox's
pub first_by : {A : Type 0} (here more : Bool) (front : Option A) (list : List A) (room : ℕ)
    → IsWay here more front list room → here ≡ true → slice_get (whole here front list) 0 ≡ front
first_by true more None [] room way some = refl
first_by true more (Some x) [] room way some = refl
first_by false more front [] room way some = absurd (cc)
first_by here more front (x ∷ xs) room way some = sym (way.first refl).1

none_by : {A : Type 0} (here more : Bool) (front : Option A) (list : List A) (room : ℕ)
    → IsWay here more front list room → here ≡ false → slice_get (whole here front list) 0 ≡ None
none_by true more front list room way none = absurd (cc)
none_by false more front [] room way none = refl
none_by false more front (x ∷ xs) room way none = let some = (way.first refl).0 in absurd (cc)

pub front_by : {A : Type 0} (here more : Bool) (front : Option A) (list : List A) (room : ℕ)
    → IsWay here more front list room → slice_get (whole here front list) 0 ≡ cond here front None
front_by true more front list room way = first_by true more front list room way refl
front_by false more front list room way = none_by false more front list room way refl

-- where there is no link, none comes in
pub unlinked : {A : Type 0} (here more : Bool) (front : Option A) → IsWay here more front [] 0
    → whole here front [] ≡ []
unlinked true more front way = absurd (omega (arith, (way.alone refl refl).0))
unlinked false more front way = refl

-- the same of what is the same
pub way_same : {A : Type 0} (here here_now more more_now : Bool) (front front_now : Option A) (list now : List A)
    (room room_now : ℕ) → IsWay here more front list room → here_now ≡ here → more_now ≡ more → front_now ≡ front
    → now ≡ list → room_now ≡ room → IsWay here_now more_now front_now now room_now
way_same here here_now more more_now front front_now list now room room_now way comes listed first all fits =
    subst (λ (b : Bool). IsWay b more_now front_now now room_now) (sym comes)
    (subst (λ (b : Bool). IsWay here b front_now now room_now) (sym listed)
    (subst (λ (f : Option _). IsWay here more f now room_now) (sym first)
    (subst (λ (l : List _). IsWay here more front l room_now) (sym all)
    (subst (λ (r : ℕ). IsWay here more front list r) (sym fits) way))))

-- a port by which none comes in
pub way_none : {A : Type 0} (front : Option A) (list : List A) (room : ℕ) → list ≡ []
    → IsWay false false front list room
way_none front list room none = record {
  listed = rw none refl;
  first = λ some. let no = sym (ap has_front none) ∙ some in absurd (cc);
  alone = λ empty some. absurd (cc);
}

-- one whose list has all
pub way_front : {A : Type 0} (here more : Bool) (front : Option A) (list : List A) (room : ℕ) → here ≡ has_front list
    → more ≡ has_front list → (here ≡ true → front ≡ slice_get list 0) → IsWay here more front list room
way_front here more front list room comes listed first = record {
  listed = listed;
  first = λ some. (comes ∙ some, first (comes ∙ some));
  alone = λ empty some. let no = sym some ∙ comes ∙ ap has_front empty in absurd (cc);
}

pub whole_front : {A : Type 0} (here : Bool) (front : Option A) (list : List A) → here ≡ has_front list
    → whole here front list ≡ list
whole_front true front [] comes = absurd (cc)
whole_front false front [] comes = refl
whole_front here front (x ∷ xs) comes = refl

-- what is in the inbox alone is dropped
pub alone_dropped : {A : Type 0} (here : Bool) (front now : Option A) (list : List A) → list ≡ []
    → whole false now list ≡ drop 1 (whole here front list)
alone_dropped true None now [] empty = refl
alone_dropped true (Some x) now [] empty = refl
alone_dropped false front now [] empty = refl
alone_dropped here front now (x ∷ xs) empty = absurd (cc)

-- what is dropped of the list is dropped of all
pub list_dropped : {A : Type 0} (here : Bool) (front : Option A) (list : List A)
    → drop 1 list ≡ drop 1 (whole here front list)
list_dropped true None [] = refl
list_dropped true (Some x) [] = refl
list_dropped false front [] = refl
list_dropped here front (x ∷ xs) = refl

-- one more behind all that the list has
pub way_more : {A : Type 0} (front : Option A) (list : List A) (more : A) (room : ℕ) → has_front list ≡ true
    → front ≡ slice_get list 0 → IsWay true true front (list ++ more ∷ []) room
way_more front [] more room some first = absurd (cc)
way_more front (x ∷ xs) more room some first = record {
  listed = refl;
  first = λ some. (refl, first);
  alone = λ empty some. absurd (cc);
}

-- one alone
pub way_alone : {A : Type 0} (front : Option A) (list : List A) (x : A) (room : ℕ) → list ≡ [] → 0 < room
    → front ≡ Some x → IsWay true false front list room
way_alone front list x room empty fits is = record {
  listed = rw empty refl;
  first = λ some. let no = sym (ap has_front empty) ∙ some in absurd (cc);
  alone = λ none some. (fits, rw is refl);
}

-- a port by which none comes in has nothing in its list either
pub not_here : {A : Type 0} (here more : Bool) (front : Option A) (list : List A) (room : ℕ)
    → IsWay here more front list room → here ≡ false → list ≡ []
not_here here more front [] room way none = refl
not_here here more front (x ∷ xs) room way none = let some = (way.first refl).0 in absurd (cc)

-- one that comes alone
pub one_pushed : {A : Type 0} (here : Bool) (front now : Option A) (list : List A) (x : A) → list ≡ [] → here ≡ false
    → now ≡ Some x → whole true now list ≡ whole here front list ++ x ∷ []
one_pushed true front now list x empty none is = absurd (cc)
one_pushed false front now [] x empty none is = rw is refl
one_pushed false front now (y ∷ ys) x empty none is = absurd (cc)

-- and one that comes behind others
pub one_behind : {A : Type 0} (here : Bool) (now : Option A) (list : List A) (x : A)
    → whole here now (list ++ x ∷ []) ≡ list ++ x ∷ []
one_behind here now [] x = refl
one_behind here now (y ∷ ys) x = refl

got_at : {A : Type 0} (xs : List A) (p : ℕ) (d : A) → IsSome (slice_get xs p) → slice_get xs p ≡ Some (get_or xs p d)
got_at [] p d some = absurd (cc)
got_at (x ∷ xs) zero d some = refl
got_at (x ∷ xs) (suc p) d some = got_at xs p d some

pub got : {A : Type 0} (xs : List A) (p i : ℕ) (d : A) → i ≡ p → IsSome (slice_get xs p)
    → slice_get xs p ≡ Some (get_or xs i d)
got xs p i d at some = got_at xs p d some ∙ (λ t. Some (get_or xs (sym at t) d))

-- how many come in where the link has no list
pub count_alone : {A : Type 0} (here more : Bool) (front : Option A) (list : List A) (room : ℕ)
    → IsWay here more front list room → more ≡ false → length (whole here front list) ≡ cond here 1 0
count_alone here more front (x ∷ xs) room way none = absurd (cc)
count_alone true more None [] room way none = let alone = (way.alone refl refl).1 in absurd (cc)
count_alone true more (Some x) [] room way none = refl
count_alone false more front [] room way none = refl

-- and the one at a place
pub alone_at : {A : Type 0} (here more : Bool) (front : Option A) (list : List A) (room : ℕ)
    → IsWay here more front list room → more ≡ false → (i : ℕ) → i < length (whole here front list) → (xs : List A)
    (p j : ℕ) (d : A) → j ≡ p → front ≡ slice_get xs p → slice_get (whole here front list) i ≡ Some (get_or xs j d)
alone_at here more front (x ∷ xs) room way none i below row p j d at is = absurd (cc)
alone_at false more front [] room way none i below row p j d at is = absurd (omega arith)
alone_at true more None [] room way none i below row p j d at is =
    let alone = (way.alone refl refl).1 in absurd (cc)
alone_at true more (Some x) [] room way none (suc i) below row p j d at is = absurd (omega arith)
alone_at true more (Some x) [] room way none zero below row p j d at is = is ∙ got row p j d at (rw (← is) refl)

-- with all that comes in put into its list
pub spilled_way : {A : Type 0} (here more : Bool) (front now : Option A) (list : List A) (room : ℕ)
    → IsWay here more front list room → (here ≡ true → now ≡ front)
    → IsWay here here now (whole here front list) room
    × (whole here now (whole here front list) ≡ whole here front list)
spilled_way false more front now [] room way same = (way_none now [] room refl, refl)
spilled_way true more None now [] room way same = let some = (way.alone refl refl).1 in absurd (cc)
spilled_way true more (Some x) now [] room way same = (
  record { listed = refl; first = λ some. (refl, same refl); alone = λ empty some. absurd (cc) },
  refl,
)
spilled_way here more front now (x ∷ xs) room way same =
    let first = way.first refl in (
      record {
        listed = first.0;
        first = λ some. (first.0, same first.0 ∙ first.1);
        alone = λ empty some. absurd (cc);
      },
      refl,
    )

-- with more room
pub way_wider : {A : Type 0} {here more : Bool} {front : Option A} {list : List A} {room : ℕ} (wider : ℕ)
    → IsWay here more front list room → room ≤ wider → IsWay here more front list wider
way_wider wider way fits = record {
  listed = way.listed;
  first = way.first;
  alone = λ empty some. let alone = way.alone empty some in (omega (arith, alone.0, fits), alone.1);
}

-- what is in the inbox alone finds room in the list
pub waits : {A : Type 0} (here more : Bool) (front : Option A) (list : List A) (room : ℕ)
    → IsWay here more front list room → (here ≡ more → ⊥) → length list < room
waits true more front [] room way alone = (way.alone refl refl).0
waits false more front [] room way alone = absurd (alone (sym way.listed))
waits here more front (x ∷ xs) room way alone = absurd (alone ((way.first refl).0 ∙ sym way.listed))
