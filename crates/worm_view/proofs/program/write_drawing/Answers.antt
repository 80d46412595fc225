-- The bytes that were given are those of the drawing.
use Rattle.worm_view.proofs.Drawing.{gave_all, gave_part}
use Rattle.worm_view.proofs.program.write_drawing.Goals as goal

pub returns-in-Ok-clause-ok : goal.returns-in-Ok-clause-ok
returns-in-Ok-clause-ok g c =
    gave_all c.as_bytes.result.now c.args.drawing.now c.as_bytes.ensures.value c.in-Ok.ensures

pub returns-in-Err-clause-err : goal.returns-in-Err-clause-err
returns-in-Err-clause-err g c =
    gave_part c.as_bytes.result.now c.args.drawing.now c.as_bytes.ensures.value c.in-Err.ensures
