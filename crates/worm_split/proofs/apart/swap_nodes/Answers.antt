use Rattle.std.proofs.Common.{arith}
use Rattle.worm_split.proofs.Swapping.{nodes_further}
use Rattle.worm_split.proofs.apart.swap_nodes.Goals as goal

pub loop-x-preserved : goal.loop-x-preserved
loop-x-preserved c =
    let s = c.loop-x in
    nodes_further c.args.own s.x c.args.kept.now.items c.args.nodes.now.items s.kept.items s.nodes.items
    c.index_mut.result.now
    c.index_mut-in-loop-x.result.now c.swap_node.new.kept c.swap_node.new.node c.owns.result s.invariant (omega arith)
    c.index_mut.ensures.value c.index_mut-in-loop-x.ensures.value c.owns.ensures c.swap_node.ensures
