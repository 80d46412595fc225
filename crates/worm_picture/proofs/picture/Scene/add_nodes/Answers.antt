use Rattle.std.proofs.Common.{rules, ◌≡◌, ◌<◌, length, get_or}
use Rattle.worm_picture.specs.Nodes.{view_flits}
use Rattle.worm_picture.specs.Packets.{tail_in}
use Rattle.worm_picture.specs.Picture.{flit_name}
use Rattle.worm_picture.proofs.Names.{one_part_more}
use Rattle.worm_picture.proofs.picture.Scene.add_nodes.Goals as goal

pub loop-view-preserved : goal.loop-view-preserved
loop-view-preserved c =
    let view = c.view-item.result in
    let within : c.loop-view.view-index < length c.args.views.now = search rules in
    let same : view ≡ get_or c.args.views.now c.loop-view.view-index view = search rules in
    one_part_more (flit_name (tail_in c.args.self.now.packets.now)) view_flits
    c.loop-view.view-index view view c.args.views.now c.args.svg.now c.loop-view.svg
    c.add_node.new.svg within same c.loop-view.invariant c.in_ok-add_node.ensures
