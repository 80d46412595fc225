use Rattle.std.proofs.Common.{◌≡◌}
use Rattle.worm_node_tests.proofs.links.credits.offer.Given as goal

abbrev pub invariant-loop-tries : goal.invariant-loop-tries
invariant-loop-tries g l = l.tx.link.channels ≡ 2

abbrev pub decreases-loop-tries : goal.decreases-loop-tries
decreases-loop-tries g l = l.tries
