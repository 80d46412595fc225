use Rattle.std.proofs.Common.{ap, ◌∙◌, is_some}
use Rattle.worm_mesh.specs.Address.{neighbour_of}
use Rattle.worm_router.specs.Routes.{RoutesView}
use Rattle.worm_router.proofs.routes.Routes.is_linked.Goals as goal

pub returns : goal.returns
returns c =
    c.contains.ensures ∙ c.self.invariant.1 c.args.port c.requires
    ∙ ap (λ (r : RoutesView). is_some (neighbour_of r.mesh r.node c.args.port)) c.self.view_is
