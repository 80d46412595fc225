-- A list has the front that is read of it, from a place on too, and is empty where none is.
use Rattle.std.proofs.Common.{◌≡◌, ℕ, zero, suc, ◌+◌, true, false, List, [], ◌∷◌, drop, Bool, Option, Some, None}
use Rattle.std.proofs.Common.{is_some, refl, ap, add-one, ◌∙◌}
use Rattle.std.specs.Prelude.{slice_get, ◌↔◌}

pub first_of : {A : Type 0} (xs : List A) (f : A) → slice_get xs 0 ≡ Some f → xs ≡ f ∷ drop 1 xs
first_of {A} [] f e = let no : ◌≡◌ {A = Option A} None (Some f) = e in absurd (cc)
first_of {A} (g ∷ xs) f e = let is : ◌≡◌ {A = Option A} (Some g) (Some f) = e in let same : g ≡ f = cc in
    ap (λ (h : A). h ∷ xs) same

pub none_of : {A : Type 0} (xs : List A) → slice_get xs 0 ≡ None → xs ≡ []
none_of [] e = refl
none_of {A} (g ∷ xs) e = let no : ◌≡◌ {A = Option A} (Some g) None = e in absurd (cc)

-- the same of a list from place i on
pub next_of : {A : Type 0} (xs : List A) (i : ℕ) (f : A) → slice_get xs i ≡ Some f → drop i xs ≡ f ∷ drop (i + 1) xs
next_of {A} [] i f e = let no : ◌≡◌ {A = Option A} None (Some f) = e in absurd (cc)
next_of {A} (g ∷ xs) zero f e = first_of (g ∷ xs) f e
next_of {A} (g ∷ xs) (suc i) f e = rw add-one (next_of xs i f e ∙ rw add-one refl)

pub end_of : {A : Type 0} (xs : List A) (i : ℕ) → slice_get xs i ≡ None → drop i xs ≡ []
end_of {A} [] zero e = refl
end_of {A} [] (suc i) e = refl
end_of {A} (g ∷ xs) zero e = none_of (g ∷ xs) e
end_of {A} (g ∷ xs) (suc i) e = end_of xs i e

-- a list has a front, or is empty
pub front_is : {A : Type 0} (xs : List A) (some : Bool) → some ≡ is_some (slice_get xs 0) → (some ≡ false) ↔ (xs ≡ [])
front_is [] some is = (λ e. refl, λ e. is)
front_is {A} (x ∷ xs) some is = (
  λ e. let yes : some ≡ true = is in absurd (cc),
  λ e. let no : ◌≡◌ {A = List A} (x ∷ xs) [] = e in absurd (cc),
)
