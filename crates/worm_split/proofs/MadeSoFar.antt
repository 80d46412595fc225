-- What is made before a split, item by item.
use Rattle.std.proofs.Common.{◌≡◌, ℕ, ◌+◌, ◌<◌, ◌≢◌, List, [], ◌∷◌, ◌++◌, inl, inr, length, Some, arith, refl}
use Rattle.std.proofs.Common.{sym, ap, subst, ◌∙◌, suc, zero}
use Rattle.std.specs.Prelude.{slice_get, slice_set, slice_index_or}
use Rattle.std.proofs.lemmas.Bool.{cases_lt}
use Rattle.std.proofs.lemmas.List.{get_or_append_left, get_or_push}
use Rattle.worm_flit.specs.Channels.{owner_of}
use Rattle.worm_mesh.specs.Address.{Joins}
use Rattle.worm_mesh.proofs.Digits.{AreLarge-from_radices}
use Rattle.worm_mesh.proofs.Neighbours.{neighbour_of-some}
use Rattle.worm_region.specs.Shape.{net_shape}
use Rattle.worm_region.specs.State.{NetState, IsFramed, shape}

get_set : (xs : List ℕ) (i v : ℕ) → i < length xs → slice_get (slice_set xs i v) i ≡ Some v
get_set [] i v below = absurd (omega arith)
get_set (x ∷ xs) zero v below = refl
get_set (x ∷ xs) (suc i) v below = get_set xs i v (omega arith)

get_set_other : (xs : List ℕ) (i j v : ℕ) → j ≢ i → slice_get (slice_set xs i v) j ≡ slice_get xs j
get_set_other [] i j v apart = refl
get_set_other (x ∷ xs) zero zero v apart = absurd (apart refl)
get_set_other (x ∷ xs) zero (suc j) v apart = refl
get_set_other (x ∷ xs) (suc i) zero v apart = refl
get_set_other (x ∷ xs) (suc i) (suc j) v apart = get_set_other xs i j v (λ e. apart (ap suc e))

pub owner_put : (channels owners : List ℕ) (n i owner : ℕ) → i ≡ n → owner ≡ owner_of channels n → i < length owners
    → ((v : ℕ) → v < n → slice_get owners v ≡ Some (owner_of channels v))
    → (v : ℕ) → v < n + 1 → slice_get (slice_set owners i owner) v ≡ Some (owner_of channels v)
owner_put channels owners n i owner at is there before v below = elim (cases_lt v n) [
  | inl lt ↦ get_set_other owners i v owner (λ e. omega arith) ∙ before v lt
  | inr ge ↦
      let here : v ≡ i = omega arith in
      let same : owner ≡ owner_of channels v = is ∙ ap (owner_of channels) (omega arith) in
      rw here (get_set owners i owner there) ∙ ap (λ (o : ℕ). Some o) same
]

-- a fact of each item, with one item more
pub each_push : {A : Type 0} (P : ℕ → A → Type 0) (d : A) (xs ys : List A) (x : A) (n : ℕ) → length xs ≡ n
    → ys ≡ xs ++ x ∷ []
    → ((k : ℕ) → k < n → P k (slice_index_or xs k d)) → P n x → (k : ℕ) → k < n + 1 → P k (slice_index_or ys k d)
each_push {A} P d xs ys x n long is before here k below = elim (cases_lt k n) [
  | inl lt ↦
      let at : slice_index_or ys k d ≡ slice_index_or xs k d = ap (λ (l : List A). slice_index_or l k d) is
      ∙ get_or_append_left xs (x ∷ []) d k (omega arith) in
      subst (P k) (sym at) (before k lt)
  | inr ge ↦
      let same : k ≡ n = omega arith in
      let at : slice_index_or ys n d ≡ x = ap (λ (l : List A). slice_index_or l n d) is ∙ get_or_push xs x d n long in
      rw same (subst (P n) (sym at) here)
]

-- a link as the theory has it
pub linked_of : (net : NetState) (y o x : ℕ) → IsFramed net → Joins net.mesh y o x → (shape net).neighbour y o ≡ Some x
unfolding net_shape
linked_of net y o x framed joins = neighbour_of-some net.mesh y o x
    (AreLarge-from_radices net.mesh framed.radices.radices) joins
