use Rattle.std.proofs.Common.{rules, ◌≡◌, ◌<◌, length, get_or, string_bytes}
use Rattle.worm_picture.specs.Map.{cell_in}
use Rattle.worm_picture.proofs.Pieces.{one_piece_more}
use Rattle.worm_picture.proofs.map.add_row.Goals as goal

pub loop-view-preserved : goal.loop-view-preserved
loop-view-preserved c =
    let view = c.view-item.result in
    let within : c.loop-view.view-index < length c.args.views.now = search rules in
    let same : view ≡ get_or c.args.views.now c.loop-view.view-index view = search rules in
    one_piece_more (cell_in c.args.mesh.now c.args.slice c.args.row) (string_bytes c.args.map.now)
    c.loop-view.view-index view view c.args.views.now (string_bytes c.loop-view.map) (string_bytes c.add_if_in.new.map)
    within same c.loop-view.invariant c.in_ok-add_if_in.ensures
