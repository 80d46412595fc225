use Rattle.std.proofs.Common.{◌∙◌, string_bytes}
use Rattle.worm_waits.proofs.Telling.{tells_rows}
use Rattle.worm_waits.proofs.text.who_waits.Goals as goal

pub returns : goal.returns
returns c =
    tells_rows c.args.shape.now c.args.channels.now c.args.depth c.args.rows.now string_bytes c.waits_text.result
    c.in_ok-packets.packets c.in_ok-views.views.items c.as_slice.result.now c.as_slice-2.result.now
    c.as_slice.ensures.value c.in_ok-packets.ensures.tails c.in_ok-views.ensures.views c.in_ok-views.ensures.once
    (c.as_slice-2.ensures.value ∙ c.in_ok-waits.ensures) c.waits_text.ensures
