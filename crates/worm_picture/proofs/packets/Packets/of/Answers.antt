use Rattle.std.proofs.Common.{rules, ◌<◌, ◌+◌, ◌-◌, ◌^◌, ◌&&◌, ◌||◌, Bool, not, cond, List, Some, None, length}
use Rattle.std.proofs.Common.{min}
use Rattle.std.proofs.Common.{take, ap, ◌∙◌}
use Rattle.worm_rows.specs.declared.rows.PacketId.{PacketId}
use Rattle.worm_picture.specs.Packets.{has_packet, moves_in, moving_of, same_packet, tail_in}
use Rattle.worm_picture.specs.declared.packets.Packets.{Packets}
use Rattle.worm_picture.proofs.Moving.{counted, moved_if, moving_more, noted}
use Rattle.worm_picture.proofs.Tails.{tail_more}
use Rattle.worm_picture.proofs.packets.Packets.of.Goals as goal
use Rattle.worm_picture.proofs.packets.Packets.of.Goals.{in-Some+in_ok-note-in-Some, in-None}

pub loop-row-preserved : goal.loop-row-preserved
loop-row-preserved c =
    let rows = c.args.rows.now in
    let i = c.loop-row.row-index in
    let below : i < length rows = search rules in
    let old = c.loop-row.packets in
    let new = c.match-flit_of.packets in
    let so_far : List PacketId = moving_of (take i rows) in
    let before = c.loop-row.invariant in
    elim c.match-flit_of.branch [
      | in-Some+in_ok-note-in-Some w ↦
          let packet = w.in-Some.packet in
          let moves = w.in-Some.moves in
          let note = w.in_ok-note-in-Some.ensures in
          let more = moving_more rows i _ (moved_if moves packet) below w.in-Some.ensures.moved in
          record {
            tails = λ other. tail_more other rows i _ below (Some (packet, w.in-Some.index)) w.in-Some.ensures.place
                (tail_in old other) (tail_in new other) (before.tails other)
                (ap (λ (p : Packets). tail_in p other) w.packets-is ∙ note.tails other);
            signs = λ other. ap (λ (p : Packets). moves_in p other) w.packets-is ∙ note.signs other
                ∙ ap (λ (b : Bool). b || (moves && same_packet other packet)) (before.signs other)
                ∙ noted packet so_far moves other ∙ ap (λ (l : List PacketId). has_packet l other) more;
            moving = ap (λ (p : Packets). p.moving) w.packets-is ∙ note.moving
                ∙ ap (λ (b : Bool). cond (moves && not b) (min (old.moving + 1) (2 ^ 32 - 1)) old.moving)
                (before.signs packet)
                ∙ counted packet so_far moves (2 ^ 32 - 1) old.moving before.moving
                ∙ ap (λ (l : List PacketId). min (length l) (2 ^ 32 - 1)) more;
          }
      | in-None w ↦
          let more = moving_more rows i _ None below w.in-None.ensures.moved in
          record {
            tails = λ other. tail_more other rows i _ below None w.in-None.ensures.place (tail_in old other)
                (tail_in new other) (before.tails other) (ap (λ (p : Packets). tail_in p other) w.packets-is);
            signs = λ other. ap (λ (p : Packets). moves_in p other) w.packets-is ∙ before.signs other
                ∙ ap (λ (l : List PacketId). has_packet l other) more;
            moving = ap (λ (p : Packets). p.moving) w.packets-is ∙ before.moving
                ∙ ap (λ (l : List PacketId). min (length l) (2 ^ 32 - 1)) more;
          }
    ]
