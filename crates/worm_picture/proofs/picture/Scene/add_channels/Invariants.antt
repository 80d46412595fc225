use Rattle.std.proofs.Common.{map, take, flat_map}
use Rattle.worm_picture.specs.Nodes.{station_flits}
use Rattle.worm_picture.specs.Packets.{tail_in}
use Rattle.worm_picture.specs.Picture.{Adds, flit_name}
use Rattle.worm_picture.proofs.picture.Scene.add_channels.Given as goal

abbrev pub invariant-loop-station : goal.invariant-loop-station
invariant-loop-station l = Adds l.fn.svg l.svg
    (map (flit_name (tail_in l.self.packets.now)) (flat_map station_flits (take l.station-index l.stations)))
