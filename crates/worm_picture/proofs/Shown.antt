-- What the nodes show, one behind the other, are the flits of the rows, each once.
use Rattle.std.proofs.Common.{◌≡◌, ◌≤◌, ◌<◌, ◌+◌, ◌*◌, ℕ, List, [], ◌∷◌, ◌++◌, Bool, true, false, not, ◌&&◌}
use Rattle.std.proofs.Common.{◌==◌, cond, map, length, get_or, All, IsPermutation, filter, flat_map, refl, sym, ap}
use Rattle.std.proofs.Common.{subst, ◌∙◌, append_assoc, arith, Result, Ok, Err, IfOk}
use Rattle.std.specs.List.{range_with_len}
use Rattle.std.proofs.lemmas.List.Concat.{flat_map-append}
use Rattle.std.proofs.lemmas.List.Elements.{All-head, All-tail, All-filter, filter_passes}
use Rattle.std.proofs.lemmas.List.Sorted.{IsPermutation-refl, IsPermutation-cons, IsPermutation-sym}
use Rattle.std.proofs.lemmas.List.Sorted.{IsPermutation-trans, IsPermutation-append}
use Rattle.std.proofs.lemmas.List.Sorted.{IsPermutation-append_right, IsPermutation-middle, IsPermutation-filter_both}
use Rattle.worm_mesh.specs.Address.{node_count}
use Rattle.worm_rows.specs.declared.shape.Shape.{Shape}
use Rattle.worm_rows.specs.Rules.{IsReport}
use Rattle.worm_rows.specs.declared.rows.PacketId.{PacketId}
use Rattle.worm_rows.specs.declared.rows.Row.{Row}
use Rattle.worm_picture.specs.declared.scene.Spot.{Spot}
use Rattle.worm_picture.specs.declared.scene.Flit.{Flit}
use Rattle.worm_picture.specs.declared.scene.Parted.{Parted}
use Rattle.worm_picture.specs.declared.scene.Part.{Part}
use Rattle.worm_picture.specs.declared.scene.Part.TheVariants.{Rear, Whole, Front}
use Rattle.worm_picture.specs.declared.views.Station.{Station}
use Rattle.worm_picture.specs.declared.views.NodeView.{NodeView}
use Rattle.worm_picture.specs.Scene.{spot_at, same, is_on, is_part, flits_at, flits_on, flits_of, stands_in, of_part}
use Rattle.worm_picture.specs.Scene.{in_order, front_first, parted_flit, seen_flits, with_parts}
use Rattle.worm_picture.specs.Nodes.{spots_at, spots_in, IsStation, IsView, HasSpot, station_flits}
use Rattle.worm_picture.specs.Nodes.{AreViews, view_flits, shown}
use Rattle.worm_picture.specs.Map.{MapsRows, map_text}
use Rattle.worm_picture.specs.Packets.{tail_in, tail_of}
use Rattle.worm_picture.specs.Picture.{PicturesFlits, PicturesRows}
use Rattle.worm_picture.specs.declared.packets.Packets.{Packets}
use Rattle.worm_picture.proofs.Taken.{filter_twice, filter_same, shuffled_pieces, taken_apart}

-- ---- the front first

abbrev in_parts : List Parted → List Parted → List Parted → List Flit
in_parts rears wholes fronts = flits_of rears ++ (flits_of wholes ++ flits_of fronts)

one_part : (part : Part) (p : Parted) (rears wholes fronts : List Parted) (all : List Flit)
    → IsPermutation all (in_parts rears wholes fronts)
    → IsPermutation (p.flit ∷ all) (in_parts (cond (is_part part Rear) (p ∷ rears) rears)
    (cond (is_part part Whole) (p ∷ wholes) wholes) (cond (is_part part Front) (p ∷ fronts) fronts))
one_part Rear p rears wholes fronts all h = IsPermutation-cons p.flit all _ h
one_part Whole p rears wholes fronts all h =
    IsPermutation-trans _ _ _ (IsPermutation-cons p.flit all _ h)
    (IsPermutation-sym _ _ (IsPermutation-middle (flits_of rears) p.flit (flits_of wholes ++ flits_of fronts)))
one_part Front p rears wholes fronts all h =
    let inner = IsPermutation-append_right (flits_of rears) _ _
    (IsPermutation-middle (flits_of wholes) p.flit (flits_of fronts)) in
    let outer = IsPermutation-middle (flits_of rears) p.flit (flits_of wholes ++ flits_of fronts) in
    IsPermutation-trans _ _ _ (IsPermutation-cons p.flit all _ h)
    (IsPermutation-sym _ _ (IsPermutation-trans _ _ _ inner outer))

part_by_part : (parted : List Parted) → IsPermutation (flits_of parted)
    (in_parts (filter (stands_in Rear) parted) (filter (stands_in Whole) parted) (filter (stands_in Front) parted))
part_by_part [] = IsPermutation-refl []
part_by_part (p ∷ parted) = one_part p.part p (filter (stands_in Rear) parted) (filter (stands_in Whole) parted)
    (filter (stands_in Front) parted) (flits_of parted) (part_by_part parted)

ordered : (parted : List Parted) → IsPermutation (flits_of parted) (in_order parted)
ordered parted = subst (λ l. IsPermutation (flits_of parted) l)
    (sym (append_assoc (of_part Rear parted) (of_part Whole parted) (of_part Front parted))) (part_by_part parted)

again : (tails : PacketId → ℕ) (all flits : List Flit) → flits_of (map (parted_flit tails all) flits) ≡ flits
again tails all [] = refl
again tails all (f ∷ flits) = ap (λ (l : List Flit). f ∷ l) (again tails all flits)

same_flits : (tails : PacketId → ℕ) (flits sorted : List Flit) → sorted ≡ front_first tails flits →
    IsPermutation flits sorted
same_flits tails flits sorted h = subst (λ l. IsPermutation flits l) (sym h)
    (subst (λ l. IsPermutation l (front_first tails flits)) (again tails flits flits)
    (ordered (with_parts tails flits)))

-- ---- one channel

-- what is there of a channel: in its buffer, and on its link
abbrev there : List Flit → Spot → List Flit
there flits spot = flits_on spot flits ++ flits_on (record spot { on_link = true }) flits

one_station : (tails : PacketId → ℕ) (flits : List Flit) (s : Station) → IsStation tails flits s
    → IsPermutation (there flits s.spot) (station_flits s)
one_station tails flits s h =
    IsPermutation-append _ _ _ _ (same_flits tails (flits_on s.spot flits) s.held.items h.held)
    (same_flits tails (flits_on (record s.spot { on_link = true }) flits) s.coming.items h.coming)

all_stations : (tails : PacketId → ℕ) (flits : List Flit) (stations : List Station)
    → All (IsStation tails flits) stations
    → IsPermutation (flat_map (there flits) (map (λ s. s.spot) stations)) (flat_map station_flits stations)
all_stations tails flits [] h = IsPermutation-refl []
all_stations tails flits (s ∷ stations) h = IsPermutation-append _ _ _ _
    (one_station tails flits s (All-head (IsStation tails flits) s stations h))
    (all_stations tails flits stations (All-tail (IsStation tails flits) s stations h))

-- ---- the channels of a node

abbrev port_of : Flit → ℕ
port_of f = f.spot.port

abbrev channel_of : Flit → ℕ
channel_of f = f.spot.vc

abbrev node_of : Flit → ℕ
node_of f = f.spot.node

abbrev of_port : ℕ → List Flit → List Flit
of_port p flits = filter (λ f. port_of f == p) flits

abbrev of_channel : ℕ → List Flit → List Flit
of_channel c flits = filter (λ f. channel_of f == c) flits

same_not : (b : Bool) → same b true ≡ not (same b false)
same_not true = refl
same_not false = refl

at_node : (b t : Bool) → b ≡ true → t ≡ (b && t)
at_node true t e = refl
at_node false t e = absurd (let no : false ≡ true = e in cc)

and_assoc : (a b c : Bool) → ((a && b) && c) ≡ (a && (b && c))
and_assoc true b c = refl
and_assoc false b c = refl

-- the flits of a node that are of a port and a channel, in the buffer or on the link
on_spot : (node p c : ℕ) (link : Bool) (flits : List Flit) → All (λ f. (node_of f == node) ≡ true) flits
    → filter (λ f. same f.spot.on_link link) (of_channel c (of_port p flits)) ≡ flits_on (spot_at link node p c) flits
on_spot node p c link flits h =
    ap (filter (λ f. same f.spot.on_link link)) (filter_twice (λ f. channel_of f == c) (λ f. port_of f == p) flits)
    ∙ filter_twice (λ f. same f.spot.on_link link) (λ f. (port_of f == p) && (channel_of f == c)) flits
    ∙ filter_same (λ f. ((port_of f == p) && (channel_of f == c)) && same f.spot.on_link link)
    (is_on (spot_at link node p c)) flits
    (λ k d lt. let f = get_or flits k d in
    let there = same f.spot.on_link link in
    and_assoc (port_of f == p) (channel_of f == c) there
    ∙ at_node (node_of f == node) ((port_of f == p) && ((channel_of f == c) && there)) (h k d lt))

one_channel : (node p c : ℕ) (flits : List Flit) → All (λ f. (node_of f == node) ≡ true) flits
    → IsPermutation (of_channel c (of_port p flits)) (there flits (spot_at false node p c))
one_channel node p c flits h =
    let here = of_channel c (of_port p flits) in
    subst (λ l. IsPermutation here (l ++ flits_on (spot_at true node p c) flits)) (on_spot node p c false flits h)
    (subst (λ l. IsPermutation here (filter (λ f. same f.spot.on_link false) here ++ l)) (on_spot node p c true flits h)
    (IsPermutation-filter_both (λ f. same f.spot.on_link false) (λ f. same f.spot.on_link true)
    (λ f. same_not f.spot.on_link) here))

-- joined again, piece by piece
flat_map_pieces : {A B C : Type 0} (h : B → List C) (f : A → List B) (places : List A)
    → flat_map h (flat_map f places) ≡ flat_map (λ a. flat_map h (f a)) places
flat_map_pieces h f [] = refl
flat_map_pieces h f (a ∷ places) = flat_map-append h (f a) (flat_map f places)
    ∙ ap (λ l. flat_map h (f a) ++ l) (flat_map_pieces h f places)

flat_map_map : {A B C : Type 0} (h : B → List C) (f : A → B) (places : List A)
    → flat_map h (map f places) ≡ flat_map (λ a. h (f a)) places
flat_map_map h f [] = refl
flat_map_map h f (a ∷ places) = ap (λ l. h (f a) ++ l) (flat_map_map h f places)

-- the channels of a port
one_port : (s : Shape) (node p : ℕ) (flits : List Flit) → All (λ f. (node_of f == node) ≡ true) flits
    → All (λ f. HasSpot s f.spot) flits
    → IsPermutation (of_port p flits) (flat_map (there flits) (spots_at node s.vcs p))
one_port s node p flits at has =
    subst (λ l. IsPermutation (of_port p flits) l)
    (sym (flat_map_map (there flits) (spot_at false node p) (range_with_len 0 s.vcs)))
    (IsPermutation-trans _ _ _
    (taken_apart channel_of s.vcs 0 (of_port p flits)
    (All-filter (λ f. port_of f == p) (λ f. (0 ≤ channel_of f) × (channel_of f < 0 + s.vcs)) flits
    (λ k d lt. let small = (has k d lt).channel in (omega arith, omega arith))))
    (shuffled_pieces (λ c. of_channel c (of_port p flits)) (λ c. there flits (spot_at false node p c))
    (λ c. one_channel node p c flits at) (range_with_len 0 s.vcs)))

-- those of all its ports
all_ports : (s : Shape) (node : ℕ) (flits : List Flit) → All (λ f. (node_of f == node) ≡ true) flits
    → All (λ f. HasSpot s f.spot) flits
    → IsPermutation flits (flat_map (there flits) (spots_in node (2 * length s.mesh + 1) s.vcs))
all_ports s node flits at has =
    let ports = 2 * length s.mesh + 1 in
    subst (λ l. IsPermutation flits l) (sym
    (flat_map_pieces (there flits) (spots_at node s.vcs) (range_with_len 0 ports)))
    (IsPermutation-trans _ _ _
    (taken_apart port_of ports 0 flits (λ k d lt. let small = (has k d lt).port in (omega arith, omega arith)))
    (shuffled_pieces (λ p. of_port p flits) (λ p. flat_map (there flits) (spots_at node s.vcs p))
    (λ p. one_port s node p flits at has) (range_with_len 0 ports)))

-- ---- all nodes

module _ (s : Shape) (rows : List Row) (tails : PacketId → ℕ) (flits : List Flit)
    (has : All (λ f. HasSpot s f.spot) flits) where
  one_view : (v : NodeView) → IsView s rows tails flits v → IsPermutation (flits_at v.node flits) (view_flits v)
  one_view v h =
      let here = flits_at v.node flits in
      IsPermutation-trans _ _ _
      (all_ports s v.node here (filter_passes (λ f. f.spot.node == v.node) flits)
      (All-filter (λ f. f.spot.node == v.node) (λ f. HasSpot s f.spot) flits has))
      (subst (λ spots. IsPermutation (flat_map (there here) spots) (view_flits v)) h.spots
      (all_stations tails here v.stations.items h.stations))

  all_views : (views : List NodeView) → All (IsView s rows tails flits) views
      → IsPermutation (flat_map (λ node. flits_at node flits) (map (λ v. v.node) views)) (shown views)
  all_views [] h = IsPermutation-refl []
  all_views (v ∷ views) h =
      IsPermutation-append _ _ _ _ (one_view v (All-head (IsView s rows tails flits) v views h))
      (all_views views (All-tail (IsView s rows tails flits) v views h))

  pub shows_each_once : (views : List NodeView) → map (λ v. v.node) views ≡ range_with_len 0 (node_count s.mesh)
      → All (IsView s rows tails flits) views → IsPermutation flits (shown views)
  shows_each_once views nodes h =
      IsPermutation-trans _ _ _
      (taken_apart node_of (node_count s.mesh) 0 flits (λ k d lt. let small = (has k d lt).node in
      (omega arith, omega arith)))
      (subst (λ ns. IsPermutation (flat_map (λ node. flits_at node flits) ns) (shown views)) nodes
      (all_views views h))

-- of the rows the packets' tails are known
pub pictures_rows : (s : Shape) (rows : List Row) (packets : Packets) (views : List NodeView) (text : List ℕ)
    → ((packet : PacketId) → tail_in packets packet ≡ tail_of rows packet) → AreViews s rows (tail_in packets) views
    → (IsReport s rows → IsPermutation (seen_flits s.mesh rows) (shown views))
    → PicturesFlits text (tail_in packets) (shown views) → PicturesRows s rows text
pictures_rows s rows packets views text tails are once pictured =
    let same : tail_in packets ≡ tail_of rows = λ i packet. tails packet i in
    record {
      views = views;
      are_views = subst (λ (t : PacketId → ℕ). AreViews s rows t views) same are;
      once = once;
      pictured = subst (λ (t : PacketId → ℕ). PicturesFlits text t (shown views)) same pictured;
    }

pub drawn_rows : {X E : Type 0} (bytes : X → List ℕ) (r : Result X E) (s : Shape) (rows : List Row)
    (packets : Packets) (views drawn : List NodeView) → drawn ≡ views
    → ((packet : PacketId) → tail_in packets packet ≡ tail_of rows packet) → AreViews s rows (tail_in packets) views
    → (IsReport s rows → IsPermutation (seen_flits s.mesh rows) (shown views))
    → IfOk r (λ text. PicturesFlits (bytes text) (tail_in packets) (shown drawn))
    → IfOk r (λ text. PicturesRows s rows (bytes text))
drawn_rows bytes (Ok text) s rows packets views drawn same_views tails are once pictured =
    pictures_rows s rows packets views (bytes text) tails are once
    (subst (λ (l : List NodeView). PicturesFlits (bytes text) (tail_in packets) (shown l)) same_views pictured)
drawn_rows bytes (Err e) s rows packets views drawn same_views tails are once pictured = tt

pub mapped_rows : {X E : Type 0} (bytes : X → List ℕ) (r : Result X E) (s : Shape) (depth : ℕ)
    (rows : List Row) (packets : Packets) (views drawn : List NodeView) → drawn ≡ views
    → ((packet : PacketId) → tail_in packets packet ≡ tail_of rows packet) → AreViews s rows (tail_in packets) views
    → (IsReport s rows → IsPermutation (seen_flits s.mesh rows) (shown views))
    → IfOk r (λ text. bytes text ≡ map_text s.mesh depth drawn)
    → IfOk r (λ text. MapsRows s depth rows (bytes text))
mapped_rows bytes (Ok text) s depth rows packets views drawn same_views tails are once is =
    record {
      views = views;
      are_views = subst (λ (t : PacketId → ℕ). AreViews s rows t views) (λ i packet. tails packet i) are;
      once = once;
      text_is = is ∙ ap (map_text s.mesh depth) same_views;
    }
mapped_rows bytes (Err e) s depth rows packets views drawn same_views tails are once is = tt
