use Rattle.worm_region.proofs.UnroutedCovered.{Covered}
use Rattle.worm_region.proofs.region.Region.route_channels.Given as goal

abbrev pub invariant-loop-port : goal.invariant-loop-port
invariant-loop-port l = Covered l.node l.initial.self l.self l.unrouted

abbrev pub decreases-loop-port : goal.decreases-loop-port
decreases-loop-port l = l.unrouted
