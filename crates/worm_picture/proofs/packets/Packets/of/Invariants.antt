use Rattle.std.proofs.Common.{◌≡◌, ◌-◌, ◌^◌, length, min, take}
use Rattle.worm_rows.specs.declared.rows.PacketId.{PacketId}
use Rattle.worm_picture.specs.Packets.{has_packet, moves_in, moving_of, tail_in, tail_of}
use Rattle.worm_picture.proofs.packets.Packets.of.Given as goal

abbrev pub invariant-loop-row : goal.invariant-loop-row
invariant-loop-row l = record {
  tails : (packet : PacketId) → tail_in l.packets packet ≡ tail_of (take l.row-index l.rows) packet;
  signs : (packet : PacketId) → moves_in l.packets packet ≡ has_packet (moving_of (take l.row-index l.rows)) packet;
  moving : l.packets.moving ≡ min (length (moving_of (take l.row-index l.rows))) (2 ^ 32 - 1);
}
