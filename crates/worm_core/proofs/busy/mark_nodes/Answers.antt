use Rattle.std.proofs.Common.{◌<◌, arith}
use Rattle.worm_mesh.specs.Address.{node_count}
use Rattle.worm_core.proofs.Marks.{node_marked, keeps_then}
use Rattle.worm_core.proofs.busy.mark_nodes.Goals as goal

pub loop-node-preserved : goal.loop-node-preserved
loop-node-preserved c =
    let s = c.args.fabric.now in
    let there : c.loop-node.node < node_count s.mesh =
    omega (arith, c.loop-node-test.true, c.nodes-node-end.ensures.value) in
    record {
      kept = keeps_then c.args.set.now c.loop-node.set c.mark_router.new.self c.loop-node.invariant.kept
          (keeps_then c.loop-node.set c.mark_source.new.self c.mark_router.new.self c.mark_source.ensures.kept
          c.mark_router.ensures.kept);
      marked = node_marked s c.requires c.loop-node.node there c.loop-node.set c.mark_source.new.self
          c.mark_router.new.self c.node-here.result.now c.node-here.ensures
          c.loop-node.invariant.marked c.mark_source.ensures.kept c.mark_router.ensures.kept
          c.mark_source.ensures.marked c.mark_router.ensures.marked;
    }
