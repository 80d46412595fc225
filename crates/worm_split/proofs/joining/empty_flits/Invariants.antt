use Rattle.std.proofs.Common.{length, ◌-◌}
use Rattle.worm_split.proofs.Emptying.{FlitsSoFar}
use Rattle.worm_split.proofs.joining.empty_flits.Given as goal

abbrev pub invariant-loop-flit : goal.invariant-loop-flit
invariant-loop-flit g l = FlitsSoFar l.fn.tx.sent l.fn.rx.taken l.ends.sent l.ends.taken l.fn.link l.link

abbrev pub decreases-loop-flit : goal.decreases-loop-flit
decreases-loop-flit g l = length l.ends.sent - length l.ends.taken
