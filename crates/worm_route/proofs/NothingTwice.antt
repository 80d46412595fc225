-- Lists in which nothing occurs twice: how they grow, and how they split.
use Rattle.std.proofs.Common.{◌≡◌, ◌≢◌, List, [], ◌∷◌, ◌++◌, refl, sym}
use Rattle.worm_route.specs.Distinct.{IsNotIn, IsDistinct}

-- one more at the end of a list
pub IsNotIn-push : {X : Type 0} (x y : X) (xs : List X) → IsNotIn x xs → x ≢ y → IsNotIn x (xs ++ y ∷ [])
IsNotIn-push x y [] h ne = (ne, tt)
IsNotIn-push x y (z ∷ xs) h ne = (h.0, IsNotIn-push x y xs h.1 ne)

pub IsDistinct-push : {X : Type 0} (xs : List X) (y : X) → IsDistinct xs → IsNotIn y xs → IsDistinct (xs ++ y ∷ [])
IsDistinct-push [] y h n = (tt, tt)
IsDistinct-push (x ∷ xs) y h n = (IsNotIn-push x y xs h.0 (λ e. n.0 (sym e)), IsDistinct-push xs y h.1 n.1)

-- what stands in a distinct list is not elsewhere in it
pub apart_within : {P : Type 0} (p b : P) (front back : List P) → IsNotIn p (front ++ b ∷ back) → p ≢ b
apart_within p b [] back n = n.0
apart_within p b (q ∷ front) back n = apart_within p b front back n.1

pub not_in_front : {P : Type 0} (front back : List P) (b : P) → IsDistinct (front ++ b ∷ back) → IsNotIn b front
not_in_front [] back b d = tt
not_in_front (p ∷ front) back b d =
    ((λ e. apart_within p b front back d.0 (sym e)), not_in_front front back b d.1)

second_apart : {P : Type 0} (p a b : P) (front back : List P) → IsNotIn p (front ++ a ∷ b ∷ back) → p ≢ b
second_apart p a b [] back n = n.1.0
second_apart p a b (q ∷ front) back n = second_apart p a b front back n.1

pub second_not_in_front : {P : Type 0} (front back : List P) (a b : P) → IsDistinct (front ++ a ∷ b ∷ back)
    → IsNotIn b front
second_not_in_front [] back a b d = tt
second_not_in_front (p ∷ front) back a b d =
    ((λ e. second_apart p a b front back d.0 (sym e)), second_not_in_front front back a b d.1)

pub distinct_back : {P : Type 0} (front back : List P) → IsDistinct (front ++ back) → IsDistinct back
distinct_back [] back d = d
distinct_back (p ∷ front) back d = distinct_back front back d.1

-- it splits at an item in one way
pub one_split : {P : Type 0} (front front' back back' : List P) (b : P) → IsDistinct (front ++ b ∷ back)
    → front ++ b ∷ back ≡ front' ++ b ∷ back' → front ≡ front'
one_split [] [] back back' b d e = refl
one_split [] (q ∷ front') back back' b d e =
    let rest : back ≡ front' ++ b ∷ back' = cc in
    let apart = apart_within b b front' back' (rw rest at d.0) in
    absurd (apart refl)
one_split (p ∷ front) [] back back' b d e =
    let same : p ≡ b = cc in
    absurd (apart_within p b front back d.0 same)
one_split (p ∷ front) (q ∷ front') back back' b d e =
    let same : p ≡ q = cc in
    let rest : front ++ b ∷ back ≡ front' ++ b ∷ back' = cc in
    let fronts = one_split front front' back back' b d.1 rest in
    cc
