use Rattle.std.proofs.Common.{◌*◌, length}
use Rattle.worm_region.proofs.LowestGiven.{Given, Owing}
use Rattle.worm_region.proofs.region.Region.give_credits.Given as goal

abbrev pub invariant-loop-port : goal.invariant-loop-port
invariant-loop-port l =
    Owing (Given l.node l.initial.self l.self) l.node (2 * length l.initial.self.mesh) l.left l.self

abbrev pub decreases-loop-port : goal.decreases-loop-port
decreases-loop-port l = l.left
