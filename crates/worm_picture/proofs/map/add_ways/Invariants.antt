use Rattle.std.proofs.Common.{◌≡◌, ◌++◌, flat_map, string_bytes}
use Rattle.std.specs.List.{range_with_len}
use Rattle.worm_picture.specs.Map.{way_text}
use Rattle.worm_picture.proofs.map.add_ways.Given as goal

abbrev pub invariant-loop-port : goal.invariant-loop-port
invariant-loop-port l =
    string_bytes l.map ≡ string_bytes l.fn.map ++ flat_map (way_text l.mesh l.view) (range_with_len 0 l.port)
