-- The nodes of a route from the last to the first, and its places.
use Rattle.std.proofs.Common.{ℕ, zero, suc, ◌≡◌, ◌+◌, ◌*◌, ◌<◌, ◌≤◌, inl, inr, List, [], ◌∷◌, ◌++◌, length, reverse}
use Rattle.std.proofs.Common.{arith, refl, ap, sym, ◌∙◌, length-append}
use Rattle.std.proofs.lemmas.Bool.{cases_eq}
use Rattle.std.proofs.lemmas.List.{reverse-append}
use Rattle.worm_mesh.specs.Address.{node_count, opposite_of, Joins}
use Rattle.worm_mesh.proofs.Digits.{AreLarge}
use Rattle.worm_mesh.proofs.Neighbours.{neighbour_of-some}
use Rattle.worm_route.specs.Route.{route_of, hops_of, port_of}
use Rattle.worm_route.specs.Distinct.{IsNotIn, IsDistinct}
use Rattle.worm_route.specs.Places.{Buffer, Link, places_along, moved_to, IsChain}
use Rattle.worm_route.proofs.NothingTwice.{IsDistinct-push}
use Rattle.worm_route.proofs.Onward.{onward, hops_nearer, hops_arrived, route_arrived}

-- each node is what the port of the node after it in the list leads to
abbrev pub IsTrack : List ℕ → ℕ → List ℕ → Type 0
IsTrack ks dst [] = Unit {0}
IsTrack ks dst (y ∷ []) = Unit {0}
IsTrack ks dst (y ∷ x ∷ r) = Joins ks x (port_of ks x dst) y × IsTrack ks dst (x ∷ r)

-- the last node of the list is x
abbrev pub EndsIn : ℕ → List ℕ → Type 0
EndsIn x [] = ⊥
EndsIn x (y ∷ []) = y ≡ x
EndsIn x (y ∷ z ∷ r) = EndsIn x (z ∷ r)

-- the first node of the list is x
abbrev pub BeginsWith : ℕ → List ℕ → Type 0
BeginsWith x [] = ⊥
BeginsWith x (y ∷ r) = y ≡ x

-- each node of the list is at most n hops from dst
abbrev pub AreNear : List ℕ → ℕ → ℕ → List ℕ → Type 0
AreNear ks dst n [] = Unit {0}
AreNear ks dst n (y ∷ r) = (hops_of ks y dst ≤ n) × AreNear ks dst n r

IsTrack-push : (ks : List ℕ) (dst y x : ℕ) (r : List ℕ) → IsTrack ks dst r → EndsIn y r
    → Joins ks x (port_of ks x dst) y → IsTrack ks dst (r ++ x ∷ [])
IsTrack-push ks dst y x [] h e j = tt
IsTrack-push ks dst y x (z ∷ []) h e j = (rw e j, tt)
IsTrack-push ks dst y x (z ∷ w ∷ r) h e j = (h.0, IsTrack-push ks dst y x (w ∷ r) h.1 e j)

EndsIn-push : (x : ℕ) (r : List ℕ) → EndsIn x (r ++ x ∷ [])
EndsIn-push x [] = refl
EndsIn-push x (y ∷ []) = refl
EndsIn-push x (y ∷ z ∷ r) = EndsIn-push x (z ∷ r)

BeginsWith-push : (y x : ℕ) (r : List ℕ) → BeginsWith y r → BeginsWith y (r ++ x ∷ [])
BeginsWith-push y x [] h = absurd h
BeginsWith-push y x (z ∷ r) h = h

AreNear-push : (ks : List ℕ) (dst n x : ℕ) (r : List ℕ) → AreNear ks dst n r → hops_of ks x dst ≤ n + 1
    → AreNear ks dst (n + 1) (r ++ x ∷ [])
AreNear-push ks dst n x [] h le = (le, tt)
AreNear-push ks dst n x (y ∷ r) h le = let near = h.0 in (omega arith, AreNear-push ks dst n x r h.1 le)

far_not_in : (ks : List ℕ) (dst n x : ℕ) (r : List ℕ) → AreNear ks dst n r → n < hops_of ks x dst → IsNotIn x r
far_not_in ks dst n x [] h lt = tt
far_not_in ks dst n x (y ∷ r) h lt =
    let near = h.0 in (λ e. absurd (omega (arith, ap (λ v. hops_of ks v dst) e)), far_not_in ks dst n x r h.1 lt)

-- the nodes of the route from src to dst, from the last to the first
pub record IsWay (ks : List ℕ) (src dst : ℕ) (way : List ℕ) : Type 0 where
  pub track : IsTrack ks dst way
  pub distinct : IsDistinct way
  pub near : AreNear ks dst (hops_of ks src dst) way
  pub ends : EndsIn src way
  pub begins : BeginsWith dst way
  pub nodes : length way ≡ hops_of ks src dst + 1

module _ (ks : List ℕ) (l : AreLarge ks) where
  way_of : (n x t : ℕ) → x < node_count ks → t < node_count ks → hops_of ks x t ≡ n
      → IsWay ks x t (reverse (route_of ks x t))
  way_of zero x t p q e =
      elim (cases_eq x t) [
        | inl same ↦
            let one : reverse (route_of ks x t) ≡ t ∷ [] =
            ap (λ v. reverse (route_of ks v t)) same ∙ ap reverse (route_arrived ks l t q) in
            rw one (record {
              track = tt;
              distinct = (tt, tt);
              near = (omega (arith, hops_arrived ks l t), tt);
              ends = sym same;
              begins = refl;
              nodes = omega (arith, e);
            })
        | inr ne ↦ absurd (omega (arith, hops_nearer ks l x t p q ne))
      ]
  way_of (suc n) x t p q e =
      elim (cases_eq x t) [
        | inl same ↦ absurd (omega (arith, hops_arrived ks l t, ap (λ v. hops_of ks v t) same))
        | inr ne ↦
            let on = onward ks l x t p q ne in
            let nearer = hops_nearer ks l x t p q ne in
            let rest = way_of n on.to t on.joined.to_node q (omega arith) in
            let past = reverse (route_of ks on.to t) in
            let split : reverse (route_of ks x t) ≡ past ++ x ∷ [] =
            ap reverse on.route ∙ reverse-append (x ∷ []) (route_of ks on.to t) in
            let near : AreNear ks t (hops_of ks on.to t + 1) (past ++ x ∷ []) =
            AreNear-push ks t (hops_of ks on.to t) x past rest.near (omega arith) in
            rw split (record {
              track = IsTrack-push ks t on.to x past rest.track rest.ends on.joined;
              distinct = IsDistinct-push past x rest.distinct
                  (far_not_in ks t (hops_of ks on.to t) x past rest.near (omega arith));
              near = rw nearer near;
              ends = EndsIn-push x past;
              begins = BeginsWith-push t x past rest.begins;
              nodes = omega (arith, length-append past (x ∷ []), rest.nodes);
            })
      ]

  pub IsWay-route : (x t : ℕ) → x < node_count ks → t < node_count ks → IsWay ks x t (reverse (route_of ks x t))
  IsWay-route x t p q = way_of (hops_of ks x t) x t p q refl

-- each place is where the flits of the next one go
module _ (ks : List ℕ) (l : AreLarge ks) where
  moved_along : (s t x y : ℕ) → Joins ks x (port_of ks x t) y
      → Buffer y (opposite_of (port_of ks x t)) ≡ moved_to ks s t (Link x (port_of ks x t))
  moved_along s t x y j = rw (neighbour_of-some ks x (port_of ks x t) y l j) refl

  pub IsChain-places : (s t : ℕ) (r : List ℕ) → IsTrack ks t r → EndsIn s r → IsChain ks s t (places_along ks t r)
  IsChain-places s t [] h e = tt
  IsChain-places s t (y ∷ []) h e = (ap (λ v. Buffer v (2 * length ks)) e, tt)
  IsChain-places s t (y ∷ x ∷ []) h e =
      (moved_along s t x y h.0, (refl, IsChain-places s t (x ∷ []) h.1 e))
  IsChain-places s t (y ∷ x ∷ z ∷ r) h e =
      (moved_along s t x y h.0, (refl, IsChain-places s t (x ∷ z ∷ r) h.1 e))

-- no place twice
buffer_not_in : (ks : List ℕ) (t y q : ℕ) (r : List ℕ) → IsNotIn y r → IsNotIn (Buffer y q) (places_along ks t r)
buffer_not_in ks t y q [] n = tt
buffer_not_in ks t y q (x ∷ []) n = (λ e. n.0 cc, (λ e. cc, tt))
buffer_not_in ks t y q (x ∷ z ∷ r) n = (λ e. n.0 cc, (λ e. cc, buffer_not_in ks t y q (z ∷ r) n.1))

pub link_not_in : (ks : List ℕ) (t x q z : ℕ) (r : List ℕ) → IsNotIn x r
    → IsNotIn (Link x q) (places_along ks t (z ∷ r))
link_not_in ks t x q z [] n = (λ e. cc, (λ e. cc, tt))
link_not_in ks t x q z (w ∷ r) n = (λ e. cc, (λ e. n.0 cc, link_not_in ks t x q w r n.1))

pub IsDistinct-places : (ks : List ℕ) (t : ℕ) (r : List ℕ) → IsDistinct r → IsDistinct (places_along ks t r)
IsDistinct-places ks t [] d = tt
IsDistinct-places ks t (y ∷ []) d = ((λ e. cc, tt), (tt, tt))
IsDistinct-places ks t (y ∷ x ∷ r) d = (
  (λ e. cc, buffer_not_in ks t y (opposite_of (port_of ks x t)) (x ∷ r) d.0),
  (link_not_in ks t x (port_of ks x t) x r d.1.0, IsDistinct-places ks t (x ∷ r) d.1),
)

pub length-places_along : (ks : List ℕ) (t : ℕ) (r : List ℕ) → length (places_along ks t r) ≡ 2 * length r
length-places_along ks t [] = refl
length-places_along ks t (y ∷ []) = refl
length-places_along ks t (y ∷ x ∷ r) = omega (arith, length-places_along ks t (x ∷ r))
