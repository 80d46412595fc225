use Rattle.std.proofs.Common.{string_bytes}
use Rattle.worm_picture.proofs.Shown.{drawn_rows}
use Rattle.worm_picture.proofs.drawing.draw_picture.Goals as goal

pub returns : goal.returns
returns c =
    drawn_rows string_bytes c.picture.result c.args.shape.now c.args.rows.now c.in_ok-packets.packets
    c.in_ok-views.views.items c.as_slice.result.now c.as_slice.ensures.value c.in_ok-packets.ensures.tails
    c.in_ok-views.ensures.views c.in_ok-views.ensures.once c.picture.ensures
