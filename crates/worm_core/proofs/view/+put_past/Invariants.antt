use Rattle.worm_route.specs.Route.{hops_of}
use Rattle.worm_core.proofs.view.+put_past.Given as goal

abbrev pub decreases-put_past : goal.decreases-put_past
decreases-put_past l = hops_of l.fabric.now.mesh l.node l.lane.dst
