use Rattle.std.proofs.Common.{take, flat_map, string_bytes}
use Rattle.worm_picture.specs.Map.{ListsBuffers, buffers_in}
use Rattle.worm_picture.proofs.map.add_all_with.Given as goal

abbrev pub invariant-loop-view : goal.invariant-loop-view
invariant-loop-view l =
    ListsBuffers l.mesh l.room (flat_map (buffers_in l.count) (take l.view-index l.views)) (string_bytes l.fn.map)
    (string_bytes l.map) l.left
