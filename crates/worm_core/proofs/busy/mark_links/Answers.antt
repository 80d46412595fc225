use Rattle.worm_core.proofs.Marks.{links_more, keeps_then}
use Rattle.worm_core.proofs.busy.mark_links.Goals as goal

pub loop-node-preserved : goal.loop-node-preserved
loop-node-preserved c = record {
  kept = keeps_then c.args.set.now c.loop-node.set c.mark_out.new.self c.loop-node.invariant.kept
      c.mark_out.ensures.kept;
  marked = links_more c.args.fabric.now c.loop-node.set c.mark_out.new.self c.loop-node.node c.mark_out.ensures.kept
      c.loop-node.invariant.marked c.mark_out.ensures.marked;
}
