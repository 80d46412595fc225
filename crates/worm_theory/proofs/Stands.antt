-- The places of a lane are those where the theory lets its flits stand.
use Rattle.std.proofs.Common.{ℕ, ◌≡◌, ◌*◌, ◌<◌, Some, List, [], ◌∷◌, ◌++◌, length, reverse, refl, ap, sym, ◌∙◌, subst}
use Rattle.std.proofs.Common.{append_assoc}
use Rattle.std.specs.Prelude.{unwrap_or}
use Rattle.worm_flit.specs.declared.Lane.{Lane}
use Rattle.worm_mesh.specs.Address.{node_count, neighbour_of, opposite_of, Joins}
use Rattle.worm_mesh.proofs.Digits.{AreLarge}
use Rattle.worm_mesh.proofs.Neighbours.{neighbour_of-some, Joins-from}
use Rattle.worm_route.specs.Route.{route_of, port_of}
use Rattle.worm_route.specs.Places.{Place, Source, Buffer, Link, places_along, places_of, moved_to, ArePlaces, IsLast}
use Rattle.worm_route.specs.Places.{IsPlaceOf}
use Rattle.worm_route.proofs.Track.{IsTrack, EndsIn, IsWay-route}
use Rattle.worm_route.proofs.PlacesByNode.{ArePlaces-of}
use Rattle.worm_route.proofs.Onward.{goes_further}
use Rattle.worm_theory.specs.Shape.{Shape, HasLane, Enters, at_source, by_link}
use Rattle.worm_theory.specs.ShapeOf.{shape_of}
use Rattle.worm_theory.specs.Standing.{LeavesBy}

-- where the theory lets a flit of the lane stand
abbrev pub StandsAt : Shape → Lane → Place → Type 0
StandsAt s lane Source = Unit {0}
StandsAt s lane (Buffer x p) = Enters s lane x p
StandsAt s lane (Link x o) = LeavesBy s lane x o

abbrev pub AllStand : Shape → Lane → List Place → Type 0
AllStand s lane [] = Unit {0}
AllStand s lane (place ∷ places) = StandsAt s lane place × AllStand s lane places

one_stands : (s : Shape) (lane : Lane) (front back : List Place) (place : Place)
    → AllStand s lane (front ++ place ∷ back) → StandsAt s lane place
one_stands s lane [] back place h = h.0
one_stands s lane (other ∷ front) back place h = one_stands s lane front back place h.1

pub front_stands : (s : Shape) (lane : Lane) (front back : List Place) → AllStand s lane (front ++ back)
    → AllStand s lane front
front_stands s lane [] back h = tt
front_stands s lane (place ∷ front) back h = (h.0, front_stands s lane front back h.1)

module _ (ks counts : List ℕ) (depth : ℕ) (l : AreLarge ks) (lane : Lane) where
  abbrev shape : Shape
  shape = shape_of ks counts depth

  -- the link between two nodes of a track, and the buffer behind it
  crossed : (x p y : ℕ) → Enters shape lane x p → Joins ks x (port_of ks x lane.dst) y
      → LeavesBy shape lane x (port_of ks x lane.dst)
  crossed x p y from j = record {
    from_port = p;
    entered = from;
    by_port = refl;
    to = y;
    linked = neighbour_of-some ks x (port_of ks x lane.dst) y l j;
  }

  reached : (x p y : ℕ) → Enters shape lane x p → Joins ks x (port_of ks x lane.dst) y
      → Enters shape lane y (opposite_of (port_of ks x lane.dst))
  reached x p y from j = by_link {p = p} from (neighbour_of-some ks x (port_of ks x lane.dst) y l j)

  along : (r : List ℕ) → IsTrack ks lane.dst r → EndsIn lane.src r → AllStand shape lane (places_along ks lane.dst r)
  along [] h e = tt
  along (y ∷ []) h e = (subst (λ v. Enters shape lane v (2 * length ks)) (sym e) at_source, (tt, tt))
  along (y ∷ x ∷ []) h e =
      let rest = along (x ∷ []) h.1 e in
      (reached x (2 * length ks) y rest.0 h.0, (crossed x (2 * length ks) y rest.0 h.0, rest))
  along (y ∷ x ∷ z ∷ r) h e =
      let rest = along (x ∷ z ∷ r) h.1 e in (
        reached x (opposite_of (port_of ks z lane.dst)) y rest.0 h.0,
        (crossed x (opposite_of (port_of ks z lane.dst)) y rest.0 h.0, rest),
      )

  module _ (there : HasLane shape lane) where
    pub all_stand : AllStand shape lane (places_of ks lane.src lane.dst)
    all_stand =
        let way = IsWay-route ks l lane.src lane.dst there.source there.destination in
        along (reverse (route_of ks lane.src lane.dst)) way.track way.ends

    pub stands_at : (place : Place) → IsPlaceOf ks lane.src lane.dst place → StandsAt shape lane place
    stands_at place h = one_stands shape lane h.0 h.1 place (rw h.2 at all_stand)

    -- it is a node of the mesh
    pub in_node : {x p : ℕ} → Enters shape lane x p → x < node_count ks
    in_node at_source = there.source
    in_node (by_link {x} {p} {y} before linked) = (Joins-from ks x (port_of ks x lane.dst) y l linked).to_node

    places : ArePlaces ks lane.src lane.dst (places_of ks lane.src lane.dst)
    places = ArePlaces-of ks l lane.src lane.dst there.source there.destination

    -- a place of the lane from which a flit moves on has a next one
    pub next_place : (place : Place) → IsPlaceOf ks lane.src lane.dst place → (IsLast lane.dst place → ⊥)
        → IsPlaceOf ks lane.src lane.dst (moved_to ks lane.src lane.dst place)
    next_place place h not_last =
        let front = h.0 in
        let r = places.moves h.0 h.1 place h.2 not_last in (
          r.0,
          place ∷ h.1,
          h.2 ∙ (ap (λ v. v ++ place ∷ h.1) r.1
              ∙ append_assoc r.0 (moved_to ks lane.src lane.dst place ∷ []) (place ∷ h.1)),
        )

    link_place : (x p y : ℕ) → IsPlaceOf ks lane.src lane.dst (Buffer x p)
        → neighbour_of ks x (port_of ks x lane.dst) ≡ Some y
        → IsPlaceOf ks lane.src lane.dst (Link x (port_of ks x lane.dst))
    link_place x p y h linked = next_place (Buffer x p) h (goes_further ks l x lane.dst y linked)

    pub entered_place : {x p : ℕ} → Enters shape lane x p → IsPlaceOf ks lane.src lane.dst (Buffer x p)
    entered_place at_source =
        let r = places.farthest in (r.0, Source ∷ [], r.1)
    entered_place (by_link {x} {p} {y} before linked) =
        let link = link_place x p y (entered_place before) linked in
        let next = next_place (Link x (port_of ks x lane.dst)) link (λ e. e) in
        let one : Buffer (unwrap_or (neighbour_of ks x (port_of ks x lane.dst)) x) (opposite_of (port_of ks x lane.dst))
        ≡ Buffer y (opposite_of (port_of ks x lane.dst)) = rw linked refl in
        subst (λ v. IsPlaceOf ks lane.src lane.dst v) one next

    pub left_place : {x o : ℕ} → LeavesBy shape lane x o → IsPlaceOf ks lane.src lane.dst (Link x o)
    left_place {x} {o} h =
        let at : neighbour_of ks x (port_of ks x lane.dst) ≡ Some h.to = rw h.by_port h.linked in
        subst (λ v. IsPlaceOf ks lane.src lane.dst (Link x v)) h.by_port
        (link_place x h.from_port h.to (entered_place h.entered) at)

    pub source_place : IsPlaceOf ks lane.src lane.dst Source
    source_place =
        let r = places.farthest in (
          r.0 ++ Buffer lane.src (2 * length ks) ∷ [],
          [],
          r.1 ∙ sym (append_assoc r.0 (Buffer lane.src (2 * length ks) ∷ []) (Source ∷ [])),
        )
