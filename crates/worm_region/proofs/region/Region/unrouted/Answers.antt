use Rattle.std.proofs.Common.{subst}
use Rattle.worm_router.specs.Busy.{IsSetOf, lacks_route}
use Rattle.worm_region.specs.State.{NetState, router_at}
use Rattle.worm_region.specs.Turns.{AreThere}
use Rattle.worm_node.specs.declared.node.Node.{Node}
use Rattle.worm_region.proofs.PlacesThere.{unrouted_there}
use Rattle.worm_region.proofs.region.Region.unrouted.Goals as goal
use Rattle.worm_region.proofs.region.Region.unrouted.Goals.{After-unrouted}

routes : (c : After-unrouted) → IsSetOf lacks_route (router_at c.self.inside.fabric c.args.node) c.unrouted.result
routes c = subst (λ (n : Node). IsSetOf lacks_route n.router c.unrouted.result) c.node.ensures c.unrouted.ensures

pub returns-clause-routes : goal.returns-clause-routes
returns-clause-routes c =
    subst (λ (s : NetState). IsSetOf lacks_route (router_at s c.args.node) c.unrouted.result) c.self.view_is
    (routes (goal.at.returns-clause-routes c).After-unrouted)

pub returns-clause-there : goal.returns-clause-there
returns-clause-there c =
    subst (λ (s : NetState). AreThere s c.args.node c.unrouted.result) c.self.view_is
    (unrouted_there c.self.inside.fabric c.args.node c.unrouted.result c.self.invariant
    (rw (c.self.view_is) c.requires) (routes (goal.at.returns-clause-there c).After-unrouted))
