use Rattle.worm_links.specs.Trial.{IsReady}
use Rattle.worm_node_tests.proofs.links.flits.fill.Given as goal

abbrev pub invariant-loop-packet : goal.invariant-loop-packet
invariant-loop-packet g l = IsReady 8 l.tx
