use Rattle.std.proofs.Common.{◌∙◌, IsSome, ap, refl, subst, sym}
use Rattle.worm_router.specs.Router.{RouterState, after_send, leaving}
use Rattle.worm_region.specs.Edges.{LetsOut}
use Rattle.worm_region.specs.State.{IsNetPlace, NetState, router_at, shape, with_router}
use Rattle.worm_region.specs.Workable.{IsWorkable, owned}
use Rattle.worm_region.proofs.OwnEdges.{all_elsewhere}
use Rattle.worm_region.proofs.EdgeMoves.{left_by}
use Rattle.worm_region.proofs.PlacesThere.{place_inside}
use Rattle.worm_region.proofs.region.Region.sent.Goals as goal
use Rattle.worm_region.proofs.region.Region.sent.Goals.{After-sent, After-self}

-- the region's lists after it
left : (c : goal.After-sent) → IsWorkable (with_router c.self.inside.fabric c.args.node c.sent.new.self)
    × LetsOut c.args.self.now c.args.node c.args.port c.args.vc
    (with_router c.self.inside.fabric c.args.node c.sent.new.self)
left c =
    let s = c.self.inside.fabric in
    let x = c.args.node in
    let crosses = all_elsewhere (shape s) (owned s) x c.args.out (rw c.self.view_is c.requires.crosses) in
    let after =
    c.sent.ensures ∙ ap (λ (r : RouterState). after_send r c.args.port c.args.vc) c.router_mut.ensures.value in
    subst (λ (t : NetState). IsWorkable (with_router s x c.sent.new.self)
    × LetsOut t x c.args.port c.args.vc (with_router s x c.sent.new.self)) c.self.view_is
    (subst (λ (r : RouterState). IsWorkable (with_router s x r) × LetsOut s x c.args.port c.args.vc (with_router s x r))
    (sym after) (left_by s x c.args.port c.args.vc c.args.out c.args.flit c.self.invariant crosses
    (rw c.self.view_is c.requires.there) (rw c.self.view_is c.requires.ready)))

place : (c : goal.After-self) → IsNetPlace c.self.inside.fabric c.args.node c.args.port c.args.vc
place c =
    place_inside _ c.args.self.now c.args.node c.args.port c.args.vc c.self.view_is c.self.invariant.framed
    c.requires.there

pub router_mut-requires : goal.router_mut-requires
router_mut-requires c = (place (goal.at.router_mut-requires c).After-self).node_in

pub sent-requires-clause-place : goal.sent-requires-clause-place
sent-requires-clause-place c =
    rw c.router_mut.ensures.value (place (goal.at.sent-requires-clause-place c).After-self).place

pub sent-requires-clause-ready : goal.sent-requires-clause-ready
sent-requires-clause-ready c =
    subst (λ (r : RouterState). IsSome (leaving r c.args.port c.args.vc)) (sym c.router_mut.ensures.value)
    (subst (λ (s : NetState). IsSome (leaving (router_at s c.args.node) c.args.port c.args.vc)) (sym c.self.view_is)
    (rw c.requires.ready refl))

pub invariant_of-self : goal.invariant_of-self
invariant_of-self c = (left (goal.at.invariant_of-self c).After-sent).0

pub returns : goal.returns
returns c = (left (goal.at.returns c).After-sent).1
