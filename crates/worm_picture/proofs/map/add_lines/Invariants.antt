use Rattle.std.proofs.Common.{◌≡◌, ◌++◌, flat_map, string_bytes}
use Rattle.std.specs.List.{range_with_len}
use Rattle.worm_picture.specs.Map.{cell_line}
use Rattle.worm_picture.proofs.map.add_lines.Given as goal

abbrev pub invariant-loop-row : goal.invariant-loop-row
invariant-loop-row l =
    string_bytes l.map ≡ string_bytes l.fn.map ++ flat_map (cell_line l.mesh l.views l.slice) (range_with_len 0 l.row)
