use Rattle.std.proofs.Common.{◌≡◌, ◌++◌, flat_map, string_bytes}
use Rattle.std.specs.List.{range_with_len}
use Rattle.worm_picture.specs.Map.{slice_text}
use Rattle.worm_picture.proofs.map.add_cells.Given as goal

abbrev pub invariant-loop-slice : goal.invariant-loop-slice
invariant-loop-slice l =
    string_bytes l.map ≡ string_bytes l.fn.map ++ flat_map (slice_text l.mesh l.views) (range_with_len 0 l.slice)
