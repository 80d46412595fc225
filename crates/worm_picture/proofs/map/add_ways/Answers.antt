use Rattle.std.proofs.Common.{string_bytes}
use Rattle.worm_picture.specs.Map.{way_text}
use Rattle.worm_picture.proofs.Pieces.{one_number_more}
use Rattle.worm_picture.proofs.map.add_ways.Goals as goal

pub loop-port-preserved : goal.loop-port-preserved
loop-port-preserved c =
    one_number_more (way_text c.args.mesh.now c.args.view.now) (string_bytes c.args.map.now) c.loop-port.port
    (string_bytes c.loop-port.map) (string_bytes c.add_way.new.map) c.loop-port.invariant c.in_ok-add_way.ensures
