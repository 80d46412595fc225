use Rattle.std.proofs.Common.{string_bytes}
use Rattle.worm_picture.proofs.Shown.{mapped_rows}
use Rattle.worm_picture.proofs.drawing.draw_map.Goals as goal

pub returns : goal.returns
returns c =
    mapped_rows string_bytes c.map.result c.args.shape.now c.args.depth c.args.rows.now c.in_ok-packets.packets
    c.in_ok-views.views.items c.as_slice.result.now c.as_slice.ensures.value c.in_ok-packets.ensures.tails
    c.in_ok-views.ensures.views c.in_ok-views.ensures.once c.map.ensures
