use Rattle.std.proofs.Common.{map, take}
use Rattle.worm_picture.specs.Packets.{tail_in}
use Rattle.worm_picture.specs.Picture.{Adds, flit_name}
use Rattle.worm_picture.proofs.flits.add_row.Given as goal

abbrev pub invariant-loop-flit : goal.invariant-loop-flit
invariant-loop-flit l =
    Adds l.fn.svg l.svg (map (flit_name (tail_in l.packets)) (take l.flit-index l.flits))
