use Rattle.std.proofs.Common.{ap, ◌++◌, ◌∙◌, ℕ, List, [], take, string_bytes, codes, flat_map}
use Rattle.worm_picture.specs.Map.{buffer_line, by_fullness, cells}
use Rattle.worm_picture.proofs.Pieces.{three_pieces}
use Rattle.worm_picture.proofs.map.map.Goals as goal

pub returns : goal.returns
returns c =
    let mesh = c.args.mesh.now in
    let all = cells mesh c.args.views.now in
    three_pieces [] all (codes "\nThe fullest buffers:\n")
    (flat_map (buffer_line mesh) (take 12 (by_fullness c.args.depth c.args.views.now)))
    (string_bytes c.add_cells.new.map) (string_bytes c.put.new.map) (string_bytes c.add_fullest.new.map)
    (c.in_ok-add_cells.ensures ∙ ap (λ (l : List ℕ). l ++ all) c.new-map.ensures.bytes) c.in_ok-put.ensures
    c.in_ok-add_fullest.ensures.text
