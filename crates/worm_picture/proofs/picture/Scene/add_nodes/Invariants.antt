use Rattle.std.proofs.Common.{map, take, flat_map}
use Rattle.worm_picture.specs.Nodes.{view_flits}
use Rattle.worm_picture.specs.Packets.{tail_in}
use Rattle.worm_picture.specs.Picture.{Adds, flit_name}
use Rattle.worm_picture.proofs.picture.Scene.add_nodes.Given as goal

abbrev pub invariant-loop-view : goal.invariant-loop-view
invariant-loop-view l = Adds l.fn.svg l.svg
    (map (flit_name (tail_in l.self.packets.now)) (flat_map view_flits (take l.view-index l.views)))
