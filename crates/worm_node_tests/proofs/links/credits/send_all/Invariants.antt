use Rattle.std.proofs.Common.{◌≡◌}
use Rattle.worm_node_tests.proofs.links.credits.send_all.Given as goal

abbrev pub invariant-loop-credit : goal.invariant-loop-credit
invariant-loop-credit g l = l.tx.link.channels ≡ 8
