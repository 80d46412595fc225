-- Who waits at the front of a buffer, and for whom (Dally and Towles, chapters 13 and 16).
use Rattle.std.specs.Prelude.{ℕ, ◌-◌, ◌*◌, ◌&&◌, ◌||◌, Bool, false, not, ◌==◌, nat_lt, if◌then◌else◌, List, length}
use Rattle.std.specs.Prelude.{fold, Option, Some, None, is_none, slice_get, slice_index}
use Rattle.std.specs.Option.{option_and_then, option_map, option_map_or, option_or}
use Rattle.std.specs.List.{filter_map, find, flat_map, list_any}
use Rattle.worm_flit.specs.Channels.{owns}
use Rattle.worm_mesh.specs.Address.{neighbour_of, opposite_of}
use Rattle.worm_rows.specs.declared.rows.PacketId.{PacketId}
use Rattle.worm_rows.specs.declared.rows.Row.{Row}
use Rattle.worm_rows.specs.declared.rows.Row.TheVariants.{Delivered}
use Rattle.worm_picture.specs.declared.scene.Flit.{Flit}
use Rattle.worm_picture.specs.declared.views.Station.{Station}
use Rattle.worm_picture.specs.declared.views.NodeView.{NodeView}
use Rattle.worm_picture.specs.Packets.{place_in, same_packet, tail_in}
use Rattle.worm_picture.specs.Scene.{exit_port}
use Rattle.worm_waits.specs.declared.scene.Scene.{Scene}
use Rattle.worm_waits.specs.declared.waits.Reason.{Reason}
use Rattle.worm_waits.specs.declared.waits.Reason.TheVariants.{Held, NoCredit}
use Rattle.worm_waits.specs.declared.waits.Wait.{Wait}

-- what a network and its report tell: the place of each packet's tail, and all nodes with the flits that are there
pub record Told : Type 0 where
  pub mesh : List ℕ
  pub channels : List ℕ
  pub depth : ℕ
  pub rows : List Row
  pub tails : PacketId → ℕ
  pub views : List NodeView

abbrev pub told : Scene → Told
told s = record {
  mesh = s.shape.now.mesh;
  channels = s.channels.now;
  depth = s.depth;
  rows = s.rows.now;
  tails = tail_in s.packets.now;
  views = s.views.now;
}

-- ---- a channel: its buffer, and the link to it

abbrev pub last_of : List Flit → Option Flit
last_of flits = slice_get flits (length flits - 1)

-- the flit that went into it last
abbrev pub last_at : Station → Option Flit
last_at s = option_or (last_of s.coming.items) (last_of s.held.items)

-- the flit at the front of its buffer
abbrev pub front_of : Station → Option Flit
front_of s = slice_get s.held.items 0

-- the flit that leaves it first
abbrev pub first_at : Station → Option Flit
first_at s = option_or (front_of s) (slice_get s.coming.items 0)

-- the packet of a flit that is not its tail
abbrev pub unfinished : (PacketId → ℕ) → Flit → Option PacketId
unfinished tails f = if nat_lt f.index (tails f.packet) then Some f.packet else None

-- A packet holds a channel from its opening to its tail: it is that of the last flit, where this is not the tail.
abbrev pub holder : (PacketId → ℕ) → Station → Option PacketId
holder tails s = option_and_then (unfinished tails) (last_at s)

abbrev pub is_held_by : (PacketId → ℕ) → PacketId → Station → Bool
is_held_by tails packet s = option_map_or (λ p. same_packet p packet) (holder tails s) false

-- No credit is left where as many flits are on the link as the buffer has places free. Its first flit is waited for.
abbrev pub no_credit : ℕ → Station → Option Reason
no_credit depth s =
    if nat_lt (length s.coming.items) (depth - length s.held.items) then None
    else option_map (λ f. NoCredit f.packet) (first_at s)

abbrev pub held_or : Option PacketId → PacketId → Option Reason → Option Reason
held_or None packet rest = rest
held_or (Some other) packet rest = if same_packet other packet then rest else Some (Held other)

-- what bars a channel to a packet: another one that holds it, or else the want of a credit
abbrev pub bar : ℕ → (PacketId → ℕ) → PacketId → Station → Option Reason
bar depth tails packet s = held_or (holder tails s) packet (no_credit depth s)

-- ---- the next node

-- the channels of a port by which a flit may go: an opening by each of its class, any other by the one that its packet
-- holds
abbrev pub is_way : Told → Flit → ℕ → Station → Bool
is_way t f port s = (s.spot.port == port) && (owns t.channels f.packet.lane.class s.spot.vc
    && ((f.index == 0) || is_held_by t.tails f.packet s))

abbrev pub is_open : Told → Flit → ℕ → Station → Bool
is_open t f port s = is_way t f port s && is_none (bar t.depth t.tails f.packet s)

abbrev pub first_bar : Told → Flit → ℕ → List Station → Option Reason
first_bar t f port stations = option_and_then (bar t.depth t.tails f.packet) (find (is_way t f port) stations)

-- where all of them are barred, what bars the first
abbrev pub barred : Told → Flit → ℕ → List Station → Option Reason
barred t f port stations = if list_any (is_open t f port) stations then None else first_bar t f port stations

abbrev pub is_node : ℕ → NodeView → Bool
is_node node v = v.node == node

-- what bars the next node to a flit that leaves by a port
abbrev pub ahead : Told → Flit → ℕ → Option Reason
ahead t f port =
    option_and_then
    (λ to. option_and_then (λ v. barred t f (opposite_of port) v.stations.items) (find (is_node to) t.views))
    (neighbour_of t.mesh f.spot.node port)

-- ---- the sink

-- the packet and the place of a flit that a node's sink took of a class
abbrev pub taken : ℕ → ℕ → Row → Option (PacketId × ℕ)
taken node class (Delivered packet load) =
    if (packet.lane.dst == node) && (packet.lane.class == class) then Some (packet, place_in load) else None
taken node class _ = None

-- those of the last one; of a node the rows of a report are in the order of arrival
abbrev pub last_taken : ℕ → ℕ → List Row → Option (PacketId × ℕ)
last_taken node class rows = fold (λ last row. option_or (taken node class row) last) None rows

abbrev pub sink_bar : (PacketId → ℕ) → PacketId → Option (PacketId × ℕ) → Option Reason
sink_bar tails packet None = None
sink_bar tails packet (Some f) =
    if nat_lt f.1 (tails f.0) && not (same_packet f.0 packet) then Some (Held f.0) else None

-- What bars the sink to an opening whose class owns one channel: another packet that is not delivered to its tail. A
-- flit behind its opening holds the sink's channel, and the report does not tell those of a class with several.
abbrev pub at_sink : Told → Flit → Option Reason
at_sink t f =
    if (f.index == 0) && (slice_index t.channels f.packet.lane.class == 1)
    then sink_bar t.tails f.packet (last_taken f.spot.node f.packet.lane.class t.rows) else None

-- ---- who waits

-- what bars a port to a flit
abbrev pub reason : Told → Flit → ℕ → Option Reason
reason t f port = if port == 2 * length t.mesh then at_sink t f else ahead t f port

-- a flit that cannot go on by the port of its route
abbrev pub wait_of : Told → Flit → Option Wait
wait_of t f =
    option_and_then (λ port. option_map (λ why. record { flit = f; port = port; reason = why }) (reason t f port))
    (exit_port t.mesh f)

abbrev pub wait_at : Told → Station → Option Wait
wait_at t s = option_and_then (wait_of t) (front_of s)

abbrev pub waits_in : Told → NodeView → List Wait
waits_in t v = filter_map (wait_at t) v.stations.items

-- all fronts of buffers that cannot go on, by node, port and channel
abbrev pub waits : Told → List Wait
waits t = flat_map (waits_in t) t.views
