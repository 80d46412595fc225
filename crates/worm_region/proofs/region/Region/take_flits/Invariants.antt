use Rattle.worm_region.proofs.EachCovered.{PortsCovered, flits}
use Rattle.worm_region.proofs.region.Region.take_flits.Given as goal

abbrev pub invariant-loop-port : goal.invariant-loop-port
invariant-loop-port l = PortsCovered (flits l.node) l.initial.self l.self l.left

abbrev pub decreases-loop-port : goal.decreases-loop-port
decreases-loop-port l = l.left
