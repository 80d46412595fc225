-- What a report shows of a network, place by place.
use Rattle.std.specs.Prelude.{ℕ, ◌&&◌, Bool, true, false, not, ◌==◌, nat_lt, if◌then◌else◌, List, ◌++◌, map, Option}
use Rattle.std.specs.Prelude.{Some, None}
use Rattle.std.specs.Option.{option_map}
use Rattle.std.specs.List.{filter, filter_map, list_any}
use Rattle.worm_mesh.specs.Address.{node_count, neighbour_of, opposite_of}
use Rattle.worm_route.specs.Route.{port_of}
use Rattle.worm_core.specs.declared.view.Place.{Place}
use Rattle.worm_core.specs.declared.view.Place.TheVariants.{Source, Buffer, Link}
use Rattle.worm_rows.specs.declared.rows.Row.{Row}
use Rattle.worm_rows.specs.declared.rows.Row.TheVariants.{Underway}
use Rattle.worm_rows.specs.declared.rows.PacketId.{PacketId}
use Rattle.worm_picture.specs.Packets.{same_packet}
use Rattle.worm_picture.specs.declared.scene.Spot.{Spot}
use Rattle.worm_picture.specs.declared.scene.Flit.{Flit}
use Rattle.worm_picture.specs.declared.scene.Parted.{Parted}
use Rattle.worm_picture.specs.declared.scene.Part.{Part}
use Rattle.worm_picture.specs.declared.scene.Part.TheVariants.{Rear, Whole, Front}

abbrev pub spot_at : Bool → ℕ → ℕ → ℕ → Spot
spot_at on_link node port vc = record { node = node; port = port; vc = vc; on_link = on_link }

-- A buffer is its own spot; a link is seen at the node that it leads to, at the opposite port.
abbrev pub spot_of : List ℕ → Place → Option Spot
spot_of mesh Source = None
spot_of mesh (Buffer node port vc) = Some (spot_at false node port vc)
spot_of mesh (Link node port vc) =
    option_map (λ to. spot_at true to (opposite_of port) vc) (neighbour_of mesh node port)

abbrev pub flit_at : PacketId → ℕ → Spot → Flit
flit_at packet index spot = record { packet = packet; index = index; spot = spot }

-- the flit of a row, if it is in a buffer or on a link
abbrev pub seen : List ℕ → Row → Option Flit
seen mesh (Underway packet index place) = option_map (flit_at packet index) (spot_of mesh place)
seen mesh _ = None

abbrev pub seen_flits : List ℕ → List Row → List Flit
seen_flits mesh rows = filter_map (seen mesh) rows

-- the port by which a flit leaves the node at which it is seen, on its route
abbrev pub exit_port : List ℕ → Flit → Option ℕ
exit_port mesh flit =
    if nat_lt flit.spot.node (node_count mesh) && nat_lt flit.packet.lane.dst (node_count mesh)
    then Some (port_of mesh flit.spot.node flit.packet.lane.dst) else None

-- ---- the flits of a place

abbrev pub flits_at : ℕ → List Flit → List Flit
flits_at node flits = filter (λ flit. flit.spot.node == node) flits

abbrev pub same : Bool → Bool → Bool
same true b = b
same false b = not b

abbrev pub is_on : Spot → Flit → Bool
is_on spot flit =
    (flit.spot.node == spot.node) && ((flit.spot.port == spot.port)
    && ((flit.spot.vc == spot.vc) && same flit.spot.on_link spot.on_link))

abbrev pub flits_on : Spot → List Flit → List Flit
flits_on spot flits = filter (is_on spot) flits

-- ---- the front first

-- these hold this flit of a packet
abbrev pub holds : List Flit → PacketId → ℕ → Bool
holds flits packet index = list_any (λ f. same_packet f.packet packet && (f.index == index)) flits

-- Where these stand, a flit stands in its packet's rear if the opening is not there, else in its front if the tail is
-- not there; tails says the place of each packet's tail.
abbrev pub part_of : (PacketId → ℕ) → List Flit → Flit → Part
part_of tails flits f =
    if not (holds flits f.packet 0) then Rear
    else if not (holds flits f.packet (tails f.packet)) then Front
    else Whole

abbrev pub parted_flit : (PacketId → ℕ) → List Flit → Flit → Parted
parted_flit tails flits f = record { flit = f; part = part_of tails flits f }

-- each of these flits with the part that it stands in
abbrev pub with_parts : (PacketId → ℕ) → List Flit → List Parted
with_parts tails flits = map (parted_flit tails flits) flits

abbrev pub flits_of : List Parted → List Flit
flits_of parted = map (λ p. p.flit) parted

abbrev pub is_part : Part → Part → Bool
is_part Rear Rear = true
is_part Whole Whole = true
is_part Front Front = true
is_part _ _ = false

abbrev pub stands_in : Part → Parted → Bool
stands_in part p = is_part p.part part

abbrev pub of_part : Part → List Parted → List Flit
of_part part parted = flits_of (filter (stands_in part) parted)

-- What went on in front, what is to come behind.
abbrev pub in_order : List Parted → List Flit
in_order parted = of_part Rear parted ++ of_part Whole parted ++ of_part Front parted

-- these flits, the front first
abbrev pub front_first : (PacketId → ℕ) → List Flit → List Flit
front_first tails flits = in_order (with_parts tails flits)
