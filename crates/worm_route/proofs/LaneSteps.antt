-- Each step on a flit of a lane is one move of the lane's machine.
use Rattle.std.proofs.Common.{ℕ, ◌≡◌, ◌*◌, ◌++◌, List, [], ◌∷◌, length, ap, sym, ◌∙◌, subst, append_assoc}
use Rattle.worm_route.specs.Distinct.{IsDistinct}
use Rattle.worm_route.specs.Places.{Place, Source, Buffer, moved_to, IsLast, ArePlaces}
use Rattle.worm_route.specs.LaneMachine.{machine_of, Raises, Appends, IsMoved, IsTaken, IsPut}
use Rattle.worm_route.proofs.OneCutRises.{Raises-moved, Raises-delivered, Appends-put}

module _ {F : Type 0} (ks : List ℕ) (s t : ℕ) (old new : Place → List F) (delivered : List F) where
  -- Feed, Send to a link and Take
  pub hop_raises : (ps : List Place) → ArePlaces ks s t ps → (front back : List Place) (b : Place) (f : F)
      → ps ≡ front ++ b ∷ back → (IsLast t b → ⊥) → IsMoved old new (moved_to ks s t b) b f
      → Raises (machine_of delivered old ps) (machine_of delivered new ps)
  hop_raises ps places front back b f e not_last m =
      let r = places.moves front back b e not_last in
      let split : ps ≡ r.0 ++ moved_to ks s t b ∷ b ∷ back =
      e ∙ (ap (λ v. v ++ b ∷ back) r.1 ∙ append_assoc r.0 (moved_to ks s t b ∷ []) (b ∷ back)) in
      let distinct : IsDistinct (r.0 ++ moved_to ks s t b ∷ b ∷ back) = rw split at places.distinct in
      subst (λ v. Raises (machine_of delivered old v) (machine_of delivered new v)) (sym split)
      (Raises-moved old new delivered r.0 back (moved_to ks s t b) b f distinct m)

  -- Send to the sink
  pub delivery_raises : (ps : List Place) → ArePlaces ks s t ps → (front back : List Place) (b : Place) (f : F)
      → ps ≡ front ++ b ∷ back → IsLast t b → IsTaken old new b f
      → Raises (machine_of delivered old ps) (machine_of (delivered ++ f ∷ []) new ps)
  delivery_raises ps places front back b f e last m =
      let split : ps ≡ b ∷ back = e ∙ ap (λ v. v ++ b ∷ back) (places.delivers front back b e last) in
      let distinct : IsDistinct (b ∷ back) = rw split at places.distinct in
      subst (λ v. Raises (machine_of delivered old v) (machine_of (delivered ++ f ∷ []) new v)) (sym split)
      (Raises-delivered old new delivered back b f distinct m)

  -- Offer and Close
  pub offer_appends : (ps : List Place) → ArePlaces ks s t ps → (added : List F) → IsPut old new Source added
      → Appends (machine_of delivered old ps) (machine_of delivered new ps) added
  offer_appends ps places added m =
      let r = places.farthest in
      let split : ps ≡ (r.0 ++ Buffer s (2 * length ks) ∷ []) ++ Source ∷ [] =
      r.1 ∙ sym (append_assoc r.0 (Buffer s (2 * length ks) ∷ []) (Source ∷ [])) in
      let distinct : IsDistinct ((r.0 ++ Buffer s (2 * length ks) ∷ []) ++ Source ∷ []) = rw split at places.distinct in
      subst (λ v. Appends (machine_of delivered old v) (machine_of delivered new v) added) (sym split)
      (Appends-put old new delivered (r.0 ++ Buffer s (2 * length ks) ∷ []) Source added distinct m)
