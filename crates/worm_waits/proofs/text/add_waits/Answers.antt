use Rattle.std.proofs.Common.{rules, ◌<◌, length, refl, string_bytes}
use Rattle.worm_waits.specs.Text.{wait_line}
use Rattle.worm_picture.proofs.Pieces.{one_piece_more}
use Rattle.worm_waits.proofs.text.add_waits.Goals as goal

pub loop-wait-preserved : goal.loop-wait-preserved
loop-wait-preserved c =
    let within : c.loop-wait.wait-index < length c.args.waits.now = search rules in
    one_piece_more wait_line (string_bytes c.args.text.now) c.loop-wait.wait-index _ _ c.args.waits.now
    (string_bytes c.loop-wait.text) (string_bytes c.add_wait.new.text) within refl c.loop-wait.invariant
    c.in_ok-add_wait.ensures
