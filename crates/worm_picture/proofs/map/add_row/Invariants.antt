use Rattle.std.proofs.Common.{◌≡◌, ◌++◌, take, flat_map, string_bytes}
use Rattle.worm_picture.specs.Map.{cell_in}
use Rattle.worm_picture.proofs.map.add_row.Given as goal

abbrev pub invariant-loop-view : goal.invariant-loop-view
invariant-loop-view l =
    string_bytes l.map ≡ string_bytes l.fn.map ++ flat_map (cell_in l.mesh l.slice l.row) (take l.view-index l.views)
