use Rattle.worm_core.specs.LaneSet.{KeepsMarks, LinksMarked}
use Rattle.worm_core.proofs.busy.mark_links.Given as goal

abbrev pub invariant-loop-node : goal.invariant-loop-node
invariant-loop-node l = record { kept : KeepsMarks l.initial.set l.set; marked : LinksMarked l.fabric l.set l.node }
