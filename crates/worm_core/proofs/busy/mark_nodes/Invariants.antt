use Rattle.worm_core.specs.LaneSet.{KeepsMarks, NodesMarked}
use Rattle.worm_core.proofs.busy.mark_nodes.Given as goal

abbrev pub invariant-loop-node : goal.invariant-loop-node
invariant-loop-node l = record { kept : KeepsMarks l.initial.set l.set; marked : NodesMarked l.fabric l.set l.node }
