use Rattle.worm_mesh.specs.Address.{node_count}
use Rattle.worm_core.proofs.Marks.{still_nodes, complete}
use Rattle.worm_core.proofs.busy.busy_lanes.Goals as goal

pub returns : goal.returns
returns c =
    let s = c.args.fabric.now in
    complete s c.requires c.mark_links.new.set
    (still_nodes s c.mark_nodes.new.set c.mark_links.new.set
    (node_count s.mesh) c.mark_links.ensures.kept c.mark_nodes.ensures.marked) c.mark_links.ensures.marked
