use Rattle.std.proofs.Common.{length, ◌-◌}
use Rattle.worm_split.proofs.Emptying.{CreditsSoFar}
use Rattle.worm_split.proofs.joining.empty_credits.Given as goal

abbrev pub invariant-loop-vc : goal.invariant-loop-vc
invariant-loop-vc g l = CreditsSoFar l.fn.tx.sent l.fn.rx.taken l.ends.sent l.ends.taken l.fn.link l.link

abbrev pub decreases-loop-vc : goal.decreases-loop-vc
decreases-loop-vc g l = length l.ends.sent - length l.ends.taken
