use Rattle.worm_region.proofs.EachCovered.{PortsCovered, credits}
use Rattle.worm_region.proofs.region.Region.take_credits.Given as goal

abbrev pub invariant-loop-port : goal.invariant-loop-port
invariant-loop-port l = PortsCovered (credits l.node) l.initial.self l.self l.left

abbrev pub decreases-loop-port : goal.decreases-loop-port
decreases-loop-port l = l.left
