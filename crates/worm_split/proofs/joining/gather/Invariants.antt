use Rattle.worm_split.proofs.Popping.{GatherSoFar}
use Rattle.worm_split.proofs.joining.gather.Given as goal

abbrev pub invariant-loop-part : goal.invariant-loop-part
invariant-loop-part l = GatherSoFar l.fn.parts.items l.parts.items l.whole

abbrev pub decreases-loop-part : goal.decreases-loop-part
decreases-loop-part l = goal.left-loop-part l
