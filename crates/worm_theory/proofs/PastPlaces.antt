-- What the theory has past a node of a packet is what was delivered, then what the places before the node's buffer
-- hold.
use Rattle.std.proofs.Common.{ℕ, ◌≡◌, ◌*◌, ◌<◌, Some, List, [], ◌∷◌, ◌++◌, length, reverse, arith, refl, ap, sym, ◌∙◌}
use Rattle.std.proofs.Common.{subst, append_assoc}
use Rattle.std.specs.Prelude.{flat_map}
use Rattle.std.proofs.lemmas.Bool.{ne_eqb}
use Rattle.std.proofs.lemmas.List.{reverse-append, append-nil, append_cancel_right}
use Rattle.std.proofs.lemmas.List.Concat.{flat_map-append}
use Rattle.worm_flit.specs.declared.Lane.{Lane}
use Rattle.worm_flit.specs.declared.Flit.{Flit}
use Rattle.worm_flit.specs.Channels.{AreChannels}
use Rattle.worm_mesh.specs.Address.{node_count, neighbour_of, opposite_of, AreRadices}
use Rattle.worm_mesh.proofs.Digits.{AreLarge, AreLarge-from_radices}
use Rattle.worm_mesh.proofs.Neighbours.{Joins-from}
use Rattle.worm_route.specs.Route.{route_of, port_of, hops_of}
use Rattle.worm_route.specs.Places.{Place, Source, Buffer, Link, places_of}
use Rattle.worm_route.proofs.Onward.{onward, goes_further, next_node}
use Rattle.worm_route.specs.Distinct.{IsDistinct}
use Rattle.worm_route.proofs.NothingTwice.{one_split}
use Rattle.worm_route.proofs.Track.{IsWay-route, EndsIn}
use Rattle.worm_route.proofs.PlacesByNode.{ArePlaces-of}
use Rattle.worm_theory.specs.Shape.{Shape, IsMesh, HasLane, Enters, at_source, by_link}
use Rattle.worm_theory.specs.Network.{Network}
use Rattle.worm_theory.specs.Cut.{underway_from}
use Rattle.worm_theory.specs.PacketCut.{packet_held, packet_store, packet_line, PacketsHold}
use Rattle.worm_theory.specs.Sound.{Sound}
use Rattle.worm_theory.specs.OpenPast.{packet_past, IsOpenPast}
use Rattle.worm_theory.proofs.OpenRecords.{open_at}
use Rattle.worm_theory.proofs.Cut.{ahead-split, ahead-past}
use Rattle.worm_theory.proofs.ChannelLines.{channel_line, store_by_class, line_by_class, link_lines}
use Rattle.worm_theory.specs.PacketPlaces.{packet_at, packet_along, IsOpenAlong, OpenPacketsAreActive}
use Rattle.worm_theory.specs.ShapeOf.{shape_of}
use Rattle.worm_theory.proofs.Shapes.{shape_is_mesh}
use Rattle.worm_theory.proofs.Joined.{between, between-all, between-push, joined_from}
use Rattle.worm_theory.proofs.Stands.{StandsAt, AllStand, front_stands, all_stand, stands_at, in_node}

-- what a place holds of the packet, as the theory reads it: all channels of a buffer, a link in its own order
abbrev pub packet_on : Network → Shape → Lane → ℕ → Place → List Flit
packet_on net s lane k Source = packet_held lane k (net.unfed lane.src lane.class)
packet_on net s lane k (Buffer x p) = packet_store s net lane k x p
packet_on net s lane k (Link x o) = packet_line net lane k x o

pub record PastPlaces (ks : List ℕ) (s : Shape) (net : Network) (lane : Lane) (k x p : ℕ) : Type 0 where
  pub front : List Place
  pub back : List Place
  pub split : places_of ks lane.src lane.dst ≡ front ++ Buffer x p ∷ back
  pub past : packet_past s net lane k x ≡ packet_held lane k (net.out lane.dst s.terminal)
      ++ flat_map (packet_on net s lane k) front

-- the places along the nodes, nearer the sink than the buffer of the first node of the route
abbrev pub nearer : List ℕ → ℕ → List ℕ → List Place
nearer ks dst [] = []
nearer ks dst (y ∷ []) = []
nearer ks dst (y ∷ x ∷ r) = Buffer y (opposite_of (port_of ks x dst)) ∷ Link x (port_of ks x dst) ∷ nearer ks dst
    (x ∷ r)

pub between-nearer : (ks : List ℕ) (dst port x : ℕ) (behind : List Place) (r : List ℕ) → EndsIn x r
    → between ks dst port behind r ≡ nearer ks dst r ++ Buffer x port ∷ behind
between-nearer ks dst port x behind [] h = absurd h
between-nearer ks dst port x behind (y ∷ []) h = ap (λ v. Buffer v port ∷ behind) h
between-nearer ks dst port x behind (y ∷ z ∷ r) h =
    ap (λ v. Buffer y (opposite_of (port_of ks z dst)) ∷ Link z (port_of ks z dst) ∷ v)
    (between-nearer ks dst port x behind (z ∷ r) h)

module _ (ks counts : List ℕ) (depth : ℕ) (l : AreLarge ks) (lane : Lane)
    (there : HasLane (shape_of ks counts depth) lane) where
  -- the places seen from a node that the route enters
  pub places_behind : {x p : ℕ} → Enters (shape_of ks counts depth) lane x p
      → (behind : List Place) × (places_of ks lane.src lane.dst
      ≡ between ks lane.dst p behind (reverse (route_of ks x lane.dst)))
  places_behind at_source = (
    Source ∷ [],
    sym (between-all ks lane.dst lane.dst (reverse (route_of ks lane.src lane.dst))
        (IsWay-route ks l lane.src lane.dst there.source there.destination).begins),
  )
  places_behind (by_link {x} {p} {y} before linked) =
      let up = places_behind before in
      let ne = goes_further ks l x lane.dst y linked in
      let in_mesh = in_node ks counts depth l lane there before in
      let on = onward ks l x lane.dst in_mesh there.destination ne in
      let same = next_node ks l x lane.dst y in_mesh there.destination ne linked in
      let route : route_of ks x lane.dst ≡ x ∷ route_of ks y lane.dst =
      on.route ∙ ap (λ v. x ∷ route_of ks v lane.dst) same in
      let split : reverse (route_of ks x lane.dst) ≡ reverse (route_of ks y lane.dst) ++ x ∷ [] =
      ap reverse route ∙ reverse-append (x ∷ []) (route_of ks y lane.dst) in
      let y_in : y < node_count ks = in_node ks counts depth l lane there (by_link {p = p} before linked) in
      let way = IsWay-route ks l y lane.dst y_in there.destination in (
        Link x (port_of ks x lane.dst) ∷ Buffer x p ∷ up.0,
        up.1 ∙ (ap (between ks lane.dst p up.0) split
            ∙ between-push ks lane.dst p lane.dst x up.0 (reverse (route_of ks y lane.dst)) way.begins),
      )

  module _ (mesh : IsMesh (shape_of ks counts depth)) (net : Network) (k : ℕ) where
    abbrev holds : Place → List Flit
    holds place = packet_on net (shape_of ks counts depth) lane k place

    pub past_places : (x p : ℕ) → Enters (shape_of ks counts depth) lane x p
        → PastPlaces ks (shape_of ks counts depth) net lane k x p
    past_places x p at =
        let s = shape_of ks counts depth in
        let store = packet_store (shape_of ks counts depth) net lane k in
        let line = packet_line net lane k in
        let r = reverse (route_of ks x lane.dst) in
        let in_mesh = in_node ks counts depth l lane there at in
        let way = IsWay-route ks l x lane.dst in_mesh there.destination in
        let behind = places_behind at in
        let front = nearer ks lane.dst (reverse (route_of ks x lane.dst)) in
        let sunk = packet_held lane k (net.out lane.dst (2 * length ks)) in
        let along : flat_map (packet_on net (shape_of ks counts depth) lane k) (front ++ Buffer x p ∷ [])
        ≡ underway_from (shape_of ks counts depth) store line lane.dst (hops_of ks x lane.dst) x p ++ [] =
        ap (flat_map (packet_on net (shape_of ks counts depth) lane k))
        (sym (between-nearer ks lane.dst p x [] r way.ends))
        ∙ joined_from ks counts depth l lane.dst there.destination
        (packet_on net (shape_of ks counts depth) lane k) line (λ z o h. refl)
        (hops_of ks x lane.dst) x p [] in_mesh refl in
        let apart : flat_map (packet_on net (shape_of ks counts depth) lane k) (front ++ Buffer x p ∷ [])
        ≡ flat_map (packet_on net (shape_of ks counts depth) lane k) front ++ (store x p ++ []) =
        flat_map-append (packet_on net (shape_of ks counts depth) lane k) front (Buffer x p ∷ []) in
        let underway : underway_from (shape_of ks counts depth) store line lane.dst (hops_of ks x lane.dst) x p
        ≡ flat_map (packet_on net (shape_of ks counts depth) lane k) front ++ store x p =
        sym (append-nil (underway_from (shape_of ks counts depth) store line lane.dst (hops_of ks x lane.dst) x p))
        ∙ (sym along ∙ (apart ∙ ap (λ v. flat_map (packet_on net (shape_of ks counts depth) lane k) front ++ v)
        (append-nil (store x p)))) in
        let whole : packet_past (shape_of ks counts depth) net lane k x ++ store x p
        ≡ (sunk ++ flat_map (packet_on net (shape_of ks counts depth) lane k) front) ++ store x p =
        sym (ahead-past (shape_of ks counts depth) mesh lane there store line (hops_of ks x lane.dst) x p)
        ∙ (ahead-split (shape_of ks counts depth) mesh lane there store line
        (hops_of ks x lane.dst) x p in_mesh refl
        ∙ (ap (λ v. sunk ++ v) underway ∙ sym
        (append_assoc sunk (flat_map (packet_on net (shape_of ks counts depth) lane k) front) (store x p)))) in
        record {
          front = front;
          back = behind.0;
          split = behind.1 ∙ between-nearer ks lane.dst p x behind.0 r way.ends;
          past = append_cancel_right (packet_past (shape_of ks counts depth) net lane k x)
              (sunk ++ flat_map (packet_on net (shape_of ks counts depth) lane k) front) (store x p) whole;
        }

    -- a place of the lane holds the same by the channels of the class
    module _ (sound : Sound (shape_of ks counts depth) net) (hold : PacketsHold (shape_of ks counts depth) net) where
      packet_on_is : (place : Place) → StandsAt (shape_of ks counts depth) lane place
          → packet_on net (shape_of ks counts depth) lane k place
          ≡ packet_at (shape_of ks counts depth) net lane k place
      packet_on_is Source h = refl
      packet_on_is (Buffer x p) h = store_by_class (shape_of ks counts depth) lane k net sound x p
      packet_on_is (Link x o) h =
          let port = (Joins-from ks x o h.to l h.linked).mesh_port in
          let at : neighbour_of ks x (port_of ks x lane.dst) ≡ Some h.to = rw h.by_port h.linked in
          let one = link_lines (shape_of ks counts depth) mesh lane there k net sound hold x h.from_port h.to h.entered
          at in
          let here : packet_line net lane k x o ≡ channel_line (shape_of ks counts depth) net lane k x o =
          subst (λ v. packet_line net lane k x v ≡ channel_line (shape_of ks counts depth) net lane k x v) h.by_port
          one in
          rw (ne_eqb o (2 * length ks) (λ e. absurd (omega arith)))
          (here ∙ line_by_class (shape_of ks counts depth) lane k net sound x o)

      packet_on_all : (places : List Place) → AllStand (shape_of ks counts depth) lane places
          → flat_map (packet_on net (shape_of ks counts depth) lane k) places
          ≡ flat_map (packet_at (shape_of ks counts depth) net lane k) places
      packet_on_all [] h = refl
      packet_on_all (place ∷ places) h = rw (packet_on_is place h.0, packet_on_all places h.1) refl

      pub packet_past_is : (front back : List Place) (x p : ℕ)
          → places_of ks lane.src lane.dst ≡ front ++ Buffer x p ∷ back
          → packet_past (shape_of ks counts depth) net lane k x
          ≡ packet_along (shape_of ks counts depth) net lane k front
      packet_past_is front back x p split =
          let at = stands_at ks counts depth l lane there (Buffer x p) (front, back, split) in
          let found = past_places x p at in
          let distinct : IsDistinct (front ++ Buffer x p ∷ back) =
          rw split at (ArePlaces-of ks l lane.src lane.dst there.source there.destination).distinct in
          let same = one_split front found.front back found.back (Buffer x p) distinct (sym split ∙ found.split) in
          let stand = front_stands (shape_of ks counts depth) lane front (Buffer x p ∷ back)
          (rw split at (all_stand ks counts depth l lane there)) in
          found.past ∙ ap (λ v. packet_held lane k (net.out lane.dst (2 * length ks)) ++ v)
          (ap (flat_map (packet_on net (shape_of ks counts depth) lane k)) (sym same) ∙ packet_on_all front stand)

      -- so a packet that is open past the places before a buffer is open past the buffer's node
      pub open_past : (front back : List Place) (x p : ℕ) → places_of ks lane.src lane.dst ≡ front ++ Buffer x p ∷ back
          → IsOpenAlong (shape_of ks counts depth) net lane k front → IsOpenPast (shape_of ks counts depth) net lane k x
      open_past front back x p split opened =
          let same = packet_past_is front back x p split in
          record { some = rw same opened.some; unclosed = rw same opened.unclosed }

-- exactly one input channel of the buffer's node is active for such a packet
pub open_is_active : (ks counts : List ℕ) (depth : ℕ) → AreRadices ks → AreChannels counts → (net : Network)
    → Sound (shape_of ks counts depth) net → PacketsHold (shape_of ks counts depth) net
    → OpenPacketsAreActive ks (shape_of ks counts depth) net
open_is_active ks counts depth mesh classes net sound hold = λ lane k there nearer farther x p split opened.
    let s = shape_of ks counts depth in
    let good = shape_is_mesh ks counts depth mesh classes in
    let l = AreLarge-from_radices ks mesh.radices in
    let at = stands_at ks counts depth l lane there (Buffer x p) (nearer, farther, split) in
    open_at s good net sound hold lane k there x p at
    (open_past ks counts depth l lane there good net k sound hold nearer farther x p split opened)
