-- The places of a lane, from the sink back: where its flits can stand (Dally and Towles, chapter 8). A place is named
-- without a channel.
use Rattle.std.specs.Prelude.{ℕ, ◌≡◌, ◌+◌, ◌*◌, List, [], ◌∷◌, ◌++◌, length, reverse, unwrap_or}
use Rattle.worm_mesh.specs.Address.{neighbour_of, opposite_of}
use Rattle.worm_route.specs.Route.{route_of, port_of, hops_of}
use Rattle.worm_route.specs.Distinct.{IsDistinct}

-- where a flit that is under way stands: not yet fed at its source; in the input buffer of a node's port; on the link
-- out of a node's port
pub data Place : Type 0 where
  Source : Place
  Buffer : (node port : ℕ) → Place
  Link : (node port : ℕ) → Place

-- The places along the nodes of a route to `dst`, the last node first: the buffer by which the route enters the node,
-- then the link before it; at the first node the injection buffer, then the source queue.
abbrev pub places_along : List ℕ → ℕ → List ℕ → List Place
places_along ks dst [] = []
places_along ks dst (node ∷ []) = Buffer node (2 * length ks) ∷ Source ∷ []
places_along ks dst (node ∷ before ∷ nodes) =
    Buffer node (opposite_of (port_of ks before dst)) ∷ Link before (port_of ks before dst) ∷ places_along ks dst
    (before ∷ nodes)

-- the places of the lanes from `src` to `dst`
abbrev pub places_of : List ℕ → ℕ → ℕ → List Place
places_of ks src dst = places_along ks dst (reverse (route_of ks src dst))

-- one of the places of the lanes from `src` to `dst`
abbrev pub IsPlaceOf : List ℕ → ℕ → ℕ → Place → Type 0
IsPlaceOf ks src dst place = (front : List Place) × (back : List Place) × (places_of ks src dst ≡ front ++ place ∷ back)

-- the place that a flit moves to: Feed moves it to the injection buffer, Send to the link by its next port, Take to the
-- buffer at the link's other end
abbrev pub moved_to : List ℕ → ℕ → ℕ → Place → Place
moved_to ks src dst Source = Buffer src (2 * length ks)
moved_to ks src dst (Buffer node port) = Link node (port_of ks node dst)
moved_to ks src dst (Link node port) = Buffer (unwrap_or (neighbour_of ks node port) node) (opposite_of port)

-- the buffers from which Send delivers
abbrev pub IsLast : ℕ → Place → Type 0
IsLast dst Source = ⊥
IsLast dst (Buffer node port) = node ≡ dst
IsLast dst (Link node port) = ⊥

-- each place is where the flits of the place after it move to
abbrev pub IsChain : List ℕ → ℕ → ℕ → List Place → Type 0
IsChain ks src dst [] = Unit {0}
IsChain ks src dst (a ∷ []) = Unit {0}
IsChain ks src dst (a ∷ b ∷ places) = (a ≡ moved_to ks src dst b) × IsChain ks src dst (b ∷ places)

-- What holds of the places of a lane. A flit at a place moves to the place before it in the list, or is delivered from
-- the first.
pub record ArePlaces (ks : List ℕ) (src dst : ℕ) (places : List Place) : Type 0 where
  pub distinct : IsDistinct places
  pub count : length places ≡ 2 * hops_of ks src dst + 2
  pub farthest : (front : List Place) × (places ≡ front ++ Buffer src (2 * length ks) ∷ Source ∷ [])
  pub nearest : (port : ℕ) × (back : List Place) × (places ≡ Buffer dst port ∷ back)
  pub moves : (front back : List Place) (place : Place) → places ≡ front ++ place ∷ back → (IsLast dst place → ⊥) →
      (nearer : List Place) × (front ≡ nearer ++ moved_to ks src dst place ∷ [])
  pub delivers : (front back : List Place) (place : Place) → places ≡ front ++ place ∷ back → IsLast dst place
      → front ≡ []
