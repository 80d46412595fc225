use Rattle.std.proofs.Common.{◌-◌, flat_map, string_bytes}
use Rattle.std.specs.List.{range_with_len}
use Rattle.worm_picture.specs.Map.{ListsBuffers, buffers_with}
use Rattle.worm_picture.proofs.map.add_fullest.Given as goal

abbrev pub invariant-loop-lack : goal.invariant-loop-lack
invariant-loop-lack l =
    ListsBuffers l.mesh 12 (flat_map (λ lack. buffers_with l.views (l.depth - lack)) (range_with_len 0 l.lack))
    (string_bytes l.fn.map) (string_bytes l.map) l.left
