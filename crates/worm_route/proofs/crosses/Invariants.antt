use Rattle.std.proofs.Common.{◌≡◌, ◌≤◌, ◌-◌, ◌*◌, drop}
use Rattle.worm_route.specs.Crossing.{crosses}
use Rattle.worm_route.proofs.crosses.Given as goal

abbrev pub invariant-loop-d : goal.invariant-loop-d
invariant-loop-d l =
    (crosses l.mesh l.node l.port l.src l.dst ≡ crosses (drop l.d l.mesh) l.at (l.port - 2 * l.d) l.first l.last)
    × (2 * l.d ≤ l.port)
