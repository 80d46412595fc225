use Rattle.std.proofs.Common.{string_bytes}
use Rattle.worm_picture.specs.Map.{cell_line}
use Rattle.worm_picture.proofs.Pieces.{one_number_more}
use Rattle.worm_picture.proofs.map.add_lines.Goals as goal

pub loop-row-preserved : goal.loop-row-preserved
loop-row-preserved c =
    one_number_more (cell_line c.args.mesh.now c.args.views.now c.args.slice) (string_bytes c.args.map.now)
    c.loop-row.row (string_bytes c.loop-row.map) (string_bytes c.add_line.new.map) c.loop-row.invariant
    c.in_ok-add_line.ensures
