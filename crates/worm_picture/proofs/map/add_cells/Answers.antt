use Rattle.std.proofs.Common.{string_bytes}
use Rattle.worm_picture.specs.Map.{slice_text}
use Rattle.worm_picture.proofs.Pieces.{one_number_more}
use Rattle.worm_picture.proofs.map.add_cells.Goals as goal

pub loop-slice-preserved : goal.loop-slice-preserved
loop-slice-preserved c =
    one_number_more (slice_text c.args.mesh.now c.args.views.now) (string_bytes c.args.map.now) c.loop-slice.slice
    (string_bytes c.loop-slice.map) (string_bytes c.add_slice.new.map) c.loop-slice.invariant c.in_ok-add_slice.ensures
