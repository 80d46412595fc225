-- The places of a lane, by the nodes of its route.
use Rattle.std.proofs.Common.{ℕ, ◌≡◌, ◌+◌, ◌*◌, ◌<◌, ◌⊎◌, inl, inr, List, [], ◌∷◌, ◌++◌, length, reverse, arith, refl}
use Rattle.std.proofs.Common.{ap, sym, ◌∙◌, append_assoc}
use Rattle.std.proofs.lemmas.List.{length-reverse}
use Rattle.worm_mesh.specs.Address.{node_count, opposite_of}
use Rattle.worm_mesh.proofs.Digits.{AreLarge}
use Rattle.worm_route.specs.Route.{route_of, hops_of, port_of}
use Rattle.worm_route.specs.Distinct.{IsNotIn, IsDistinct}
use Rattle.worm_route.specs.Places.{Place, Source, Buffer, Link, places_along, places_of, moved_to, IsChain, IsLast}
use Rattle.worm_route.specs.Places.{ArePlaces}
use Rattle.worm_route.proofs.Track.{IsWay, IsWay-route, EndsIn, BeginsWith, IsChain-places, IsDistinct-places}
use Rattle.worm_route.proofs.Track.{length-places_along, link_not_in}
use Rattle.worm_route.proofs.NothingTwice.{apart_within}

-- in a chain what stands before a place is where its flits move to
chain_before : (ks : List ℕ) (s t : ℕ) (front back : List Place) (b : Place) → IsChain ks s t (front ++ b ∷ back)
    → (front ≡ []) ⊎ ((nearer : List Place) × (front ≡ nearer ++ moved_to ks s t b ∷ []))
chain_before ks s t [] back b h = inl refl
chain_before ks s t (a ∷ []) back b h = inr ([], ap (λ p. p ∷ []) h.0)
chain_before ks s t (a ∷ c ∷ front) back b h =
    elim (chain_before ks s t (c ∷ front) back b h.1) [
      | inl e ↦ absurd (not_empty c front e)
      | inr r ↦ inr (a ∷ r.0, ap (λ ps. a ∷ ps) r.1)
    ]
  where
    not_empty : (p : Place) (ps : List Place) → p ∷ ps ≡ [] → ⊥
    not_empty p ps e = cc

first_is : (ks : List ℕ) (t : ℕ) (r : List ℕ) → BeginsWith t r
    → (port : ℕ) × (back : List Place) × (places_along ks t r ≡ Buffer t port ∷ back)
first_is ks t [] h = absurd h
first_is ks t (y ∷ []) h = (2 * length ks, Source ∷ [], ap (λ v. Buffer v (2 * length ks) ∷ Source ∷ []) h)
first_is ks t (y ∷ x ∷ r) h = (
  opposite_of (port_of ks x t),
  Link x (port_of ks x t) ∷ places_along ks t (x ∷ r),
  ap (λ v. Buffer v (opposite_of (port_of ks x t)) ∷ Link x (port_of ks x t) ∷ places_along ks t (x ∷ r)) h,
)

last_is : (ks : List ℕ) (s t : ℕ) (r : List ℕ) → EndsIn s r
    → (front : List Place) × (places_along ks t r ≡ front ++ Buffer s (2 * length ks) ∷ Source ∷ [])
last_is ks s t [] h = absurd h
last_is ks s t (y ∷ []) h = ([], ap (λ v. Buffer v (2 * length ks) ∷ Source ∷ []) h)
last_is ks s t (y ∷ x ∷ r) h =
    let rest = last_is ks s t (x ∷ r) h in (
      Buffer y (opposite_of (port_of ks x t)) ∷ Link x (port_of ks x t) ∷ rest.0,
      ap (λ ps. Buffer y (opposite_of (port_of ks x t)) ∷ Link x (port_of ks x t) ∷ ps) rest.1,
    )

no_link_at_end : (ks : List ℕ) (t q : ℕ) (r : List ℕ) → BeginsWith t r → IsDistinct r
    → IsNotIn (Link t q) (places_along ks t r)
no_link_at_end ks t q [] b d = tt
no_link_at_end ks t q (y ∷ r) b d = link_not_in ks t t q y r (rw b at d.0)

head_of : (a b : Place) (ps qs : List Place) → a ∷ ps ≡ b ∷ qs → a ≡ b
head_of a b ps qs e = cc

last_moves : (ks : List ℕ) (s t : ℕ) (b : Place) → IsLast t b → moved_to ks s t b ≡ Link t (port_of ks t t)
last_moves ks s t Source h = absurd h
last_moves ks s t (Buffer y p) h = ap (λ v. Link v (port_of ks v t)) h
last_moves ks s t (Link y p) h = absurd h

module _ (ks : List ℕ) (l : AreLarge ks) (s t : ℕ) (p : s < node_count ks) (q : t < node_count ks) where
  abbrev nodes : List ℕ
  nodes = reverse (route_of ks s t)

  way : IsWay ks s t (reverse (route_of ks s t))
  way = IsWay-route ks l s t p q

  pub moves_to : (front back : List Place) (b : Place) → places_of ks s t ≡ front ++ b ∷ back → (IsLast t b → ⊥)
      → (nearer : List Place) × (front ≡ nearer ++ moved_to ks s t b ∷ [])
  moves_to front back b e not_last =
      let chain : IsChain ks s t (front ++ b ∷ back) = rw e at (IsChain-places ks l s t nodes way.track way.ends) in
      let first = first_is ks t nodes way.begins in
      elim (chain_before ks s t front back b chain) [
        | inl none ↦
            let at : Buffer t first.0 ≡ b = head_of (Buffer t first.0) b first.1 back
            (sym first.2 ∙ (e ∙ ap (λ ps. ps ++ b ∷ back) none)) in
            absurd (not_last (rw (← at) refl))
        | inr r ↦ r
      ]

  pub delivered_from : (front back : List Place) (b : Place) → places_of ks s t ≡ front ++ b ∷ back → IsLast t b
      → front ≡ []
  delivered_from front back b e last =
      let chain : IsChain ks s t (front ++ b ∷ back) = rw e at (IsChain-places ks l s t nodes way.track way.ends) in
      elim (chain_before ks s t front back b chain) [
        | inl none ↦ none
        | inr r ↦
            let none : IsNotIn (Link t (port_of ks t t)) (places_of ks s t) =
            no_link_at_end ks t (port_of ks t t) nodes way.begins way.distinct in
            let split : places_of ks s t ≡ r.0 ++ Link t (port_of ks t t) ∷ b ∷ back =
            e ∙ (ap (λ ps. ps ++ b ∷ back) (r.1 ∙ ap (λ v. r.0 ++ v ∷ []) (last_moves ks s t b last))
            ∙ append_assoc r.0 (Link t (port_of ks t t) ∷ []) (b ∷ back)) in
            absurd (apart_within (Link t (port_of ks t t)) (Link t (port_of ks t t)) r.0 (b ∷ back)
            (rw split at none) refl)
      ]

  pub nodes_of : length (route_of ks s t) ≡ hops_of ks s t + 1
  nodes_of = sym (length-reverse (route_of ks s t)) ∙ way.nodes

  pub ArePlaces-of : ArePlaces ks s t (places_of ks s t)
  ArePlaces-of = record {
    distinct = IsDistinct-places ks t nodes way.distinct;
    count = omega (arith, length-places_along ks t nodes, way.nodes);
    farthest = last_is ks s t nodes way.ends;
    nearest = first_is ks t nodes way.begins;
    moves = moves_to;
    delivers = delivered_from;
  }
