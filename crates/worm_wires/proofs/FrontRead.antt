-- What is read at a place of a list, also where one was put.
use Rattle.std.proofs.Common.{◌≡◌, ◌<◌, ℕ, zero, suc, List, [], ◌∷◌, length, get_or, set, Some, ap, arith, refl}
use Rattle.std.specs.Prelude.{slice_get}

-- at a place that is there
pub read : {A : Type 0} (xs : List A) (p : ℕ) (d : A) → p < length xs → Some (get_or xs p d) ≡ slice_get xs p
read [] p d there = absurd (omega arith)
read (x ∷ xs) zero d there = refl
read (x ∷ xs) (suc p) d there = read xs p d (omega arith)

-- what was put there
put_there : {A : Type 0} (xs : List A) (p : ℕ) (x : A) → p < length xs → slice_get (set xs p x) p ≡ Some x
put_there [] p x there = absurd (omega arith)
put_there (y ∷ ys) zero x there = refl
put_there (y ∷ ys) (suc p) x there = put_there ys p x (omega arith)

-- the same, where the place is known by an equation
pub read_back : {A : Type 0} (xs : List A) (p i : ℕ) (x : A) → p < length xs → i ≡ p → slice_get (set xs i x) p ≡ Some x
read_back xs p i x there at = rw at (put_there xs p x there)

-- elsewhere is what was there
put_elsewhere : {A : Type 0} (xs : List A) (p q : ℕ) (x : A) → (q ≡ p → ⊥) → slice_get (set xs p x) q ≡ slice_get xs q
put_elsewhere [] p q x other = refl
put_elsewhere (y ∷ ys) zero zero x other = absurd (other refl)
put_elsewhere (y ∷ ys) zero (suc q) x other = refl
put_elsewhere (y ∷ ys) (suc p) zero x other = refl
put_elsewhere (y ∷ ys) (suc p) (suc q) x other = put_elsewhere ys p q x (λ same. other (ap suc same))

-- and the same
pub read_else : {A : Type 0} (xs : List A) (p i q : ℕ) (x : A) → i ≡ p → (q ≡ p → ⊥)
    → slice_get (set xs i x) q ≡ slice_get xs q
read_else xs p i q x at other = rw at (put_elsewhere xs p q x other)
