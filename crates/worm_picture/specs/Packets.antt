-- What is known of a report's packets, and the tail of each.
use Rattle.std.specs.Prelude.{ℕ, ◌&&◌, Bool, ◌==◌, if◌then◌else◌, List, [], ◌∷◌, Option, Some, None, max, fold}
use Rattle.std.specs.Prelude.{is_some}
use Rattle.std.specs.Option.{unwrap_or}
use Rattle.std.specs.List.{filter_map, list_any}
use Rattle.std.specs.Ordering.{nat_cmp, ordering_then}
use Rattle.std.specs.BTreeMap as tree
use Rattle.std.specs.declared.cmp.Ordering.{Ordering}
use Rattle.worm_core.specs.declared.view.Place.TheVariants.{Source}
use Rattle.worm_text.specs.Traffic.{lane_cmp}
use Rattle.worm_rows.specs.declared.rows.Load.{Load}
use Rattle.worm_rows.specs.declared.rows.Load.TheVariants.{Close, Word}
use Rattle.worm_rows.specs.declared.rows.PacketId.{PacketId}
use Rattle.worm_rows.specs.declared.rows.Row.{Row}
use Rattle.worm_rows.specs.declared.rows.Row.TheVariants.{Delivered, Underway}
use Rattle.worm_picture.specs.declared.packets.Packet.{Packet}
use Rattle.worm_picture.specs.declared.packets.Packets.{Packets}

abbrev pub same_packet : PacketId → PacketId → Bool
same_packet a b =
    ((a.lane.src == b.lane.src) && ((a.lane.dst == b.lane.dst) && (a.lane.class == b.lane.class)))
    && (a.number == b.number)

-- packets in order: by lane, and then by number
abbrev pub packet_cmp : PacketId → PacketId → Ordering
packet_cmp a b = ordering_then (lane_cmp a.lane b.lane) (nat_cmp a.number b.number)

-- what is known of a packet: nothing, where none of its flits was noted
abbrev pub known : Packets → PacketId → Packet
known p packet = unwrap_or (tree.get packet_cmp p.packets packet) (record { last = 0; sign = None })

abbrev pub tail_in : Packets → PacketId → ℕ
tail_in p packet = (known p packet).last

-- the place of a delivered flit in its packet; a close mark is a packet of its own
abbrev pub place_in : Load → ℕ
place_in Close = 0
place_in (Word index word) = index

-- the packet of a row's flit, and the flit's place in it
abbrev pub place_of : Row → Option (PacketId × ℕ)
place_of (Delivered packet load) = Some (packet, place_in load)
place_of (Underway packet index place) = Some (packet, index)
place_of _ = None

-- the greatest index so far of a packet's flits, with this flit
abbrev pub last_with : PacketId → ℕ → PacketId → ℕ → ℕ
last_with packet index other last = if same_packet other packet then max last index else last

-- The greatest index of a packet's flits in the rows: its tail, since a packet is injected whole and loses no flit.
abbrev pub tail_of : List Row → PacketId → ℕ
tail_of rows packet = fold (λ last f. last_with f.0 f.1 packet last) 0 (filter_map place_of rows)

-- ---- packets that move

-- whether a packet was noted with a flit in a buffer or on a link
abbrev pub moves_in : Packets → PacketId → Bool
moves_in p packet = is_some (known p packet).sign

-- the packet of a row's flit, if that is in a buffer or on a link
abbrev pub moved_by : Row → Option PacketId
moved_by (Underway packet index Source) = None
moved_by (Underway packet index place) = Some packet
moved_by _ = None

-- whether these packets have this one among them
abbrev pub has_packet : List PacketId → PacketId → Bool
has_packet packets packet = list_any (same_packet packet) packets

-- these packets with this one, which is there once
abbrev pub with_packet : List PacketId → PacketId → List PacketId
with_packet packets packet = if has_packet packets packet then packets else packet ∷ packets

-- the packets with a flit in a buffer or on a link, each once
abbrev pub moving_of : List Row → List PacketId
moving_of rows = fold with_packet [] (filter_map moved_by rows)
