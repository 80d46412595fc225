use Rattle.worm_router.proofs.GrantsWritten.{AreWritten}
use Rattle.worm_router.proofs.router.Router.grant_waiting.Given as goal

abbrev pub invariant-loop-port : goal.invariant-loop-port
invariant-loop-port l = AreWritten l.initial.self l.self l.grants l.left

abbrev pub decreases-loop-port : goal.decreases-loop-port
decreases-loop-port l = l.left
