use Rattle.worm_split.specs.Exchange.{NodesSwapped}
use Rattle.worm_split.proofs.apart.swap_nodes.Given as goal

abbrev pub invariant-loop-x : goal.invariant-loop-x
invariant-loop-x l = NodesSwapped l.own l.x l.fn.kept.items l.fn.nodes.items l.kept.items l.nodes.items
