use Rattle.std.proofs.Common.{take, flat_map, string_bytes}
use Rattle.worm_picture.specs.Map.{ListsBuffers, if_with}
use Rattle.worm_picture.proofs.map.add_buffers.Given as goal

abbrev pub invariant-loop-station : goal.invariant-loop-station
invariant-loop-station l =
    ListsBuffers l.mesh l.room (flat_map (if_with l.count) (take l.station-index l.stations)) (string_bytes l.fn.map)
    (string_bytes l.map) l.left
