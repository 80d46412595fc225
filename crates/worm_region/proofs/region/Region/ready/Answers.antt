use Rattle.std.proofs.Common.{◌∙◌, ap, subst, sym}
use Rattle.worm_router.specs.Router.{IsPlace, leaving}
use Rattle.worm_region.specs.State.{NetState, router_at}
use Rattle.worm_node.specs.declared.node.Node.{Node}
use Rattle.worm_region.proofs.PlacesThere.{place_inside}
use Rattle.worm_region.proofs.region.Region.ready.Goals as goal

pub node-requires : goal.node-requires
node-requires c =
    (place_inside _ c.args.self.now c.args.node c.args.port c.args.vc c.self.view_is c.self.invariant.framed
    c.requires).node_in

pub ready-requires : goal.ready-requires
ready-requires c = subst (λ (n : Node). IsPlace n.router c.args.port c.args.vc) (sym c.node.ensures)
    (place_inside _ c.args.self.now c.args.node c.args.port c.args.vc c.self.view_is c.self.invariant.framed
    c.requires).place

pub returns : goal.returns
returns c =
    c.ready.ensures.leaves ∙ ap (λ (n : Node). leaving n.router c.args.port c.args.vc) c.node.ensures
    ∙ ap (λ (s : NetState). leaving (router_at s c.args.node) c.args.port c.args.vc) c.self.view_is
