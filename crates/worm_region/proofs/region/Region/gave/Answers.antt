use Rattle.std.proofs.Common.{◌∙◌, ◌<◌, ap, inr, subst, sym}
use Rattle.worm_router.specs.Router.{RouterState, after_gave, input_at}
use Rattle.worm_theory.specs.Steps.{GiveCredit, IsThere}
use Rattle.worm_region.specs.Edges.{LetsGive}
use Rattle.worm_region.specs.State.{IsNetPlace, NetState, shape, with_router}
use Rattle.worm_region.specs.Workable.{IsWorkable, owned}
use Rattle.worm_region.proofs.OwnEdges.{all_elsewhere}
use Rattle.worm_region.proofs.EdgeMoves.{gave_away}
use Rattle.worm_region.proofs.PlacesThere.{net_place}
use Rattle.worm_region.proofs.region.Region.gave.Goals as goal
use Rattle.worm_region.proofs.region.Region.gave.Goals.{After-gave, After-self}

-- the region's lists after it
given : (c : goal.After-gave) → IsWorkable (with_router c.self.inside.fabric c.args.node c.gave.new.self)
    × LetsGive c.args.self.now c.args.node c.args.port c.args.vc
    (with_router c.self.inside.fabric c.args.node c.gave.new.self)
given c =
    let s = c.self.inside.fabric in
    let x = c.args.node in
    let crosses = all_elsewhere (shape s) (owned s) x c.args.port (rw c.self.view_is c.requires.crosses) in
    let after =
    c.gave.ensures ∙ ap (λ (r : RouterState). after_gave r c.args.port c.args.vc) c.router_mut.ensures.value in
    subst (λ (t : NetState). IsWorkable (with_router s x c.gave.new.self)
    × LetsGive t x c.args.port c.args.vc (with_router s x c.gave.new.self)) c.self.view_is
    (subst (λ (r : RouterState). IsWorkable (with_router s x r) × LetsGive s x c.args.port c.args.vc
    (with_router s x r))
    (sym after) (gave_away s x c.args.port c.args.vc c.self.invariant crosses (rw c.self.view_is c.requires.there)
    (rw c.self.view_is c.requires.owed)))

place : (c : goal.After-self) → IsNetPlace c.self.inside.fabric c.args.node c.args.port c.args.vc
place c =
    let there : IsThere (shape c.self.inside.fabric) (GiveCredit c.args.node c.args.port c.args.vc) =
    rw c.self.view_is c.requires.there in
    net_place c.self.inside.fabric c.args.node c.args.port c.args.vc c.self.invariant.framed there.0 (inr there.1)
    there.2

pub router_mut-requires : goal.router_mut-requires
router_mut-requires c = (place (goal.at.router_mut-requires c).After-self).node_in

pub gave-requires-clause-place : goal.gave-requires-clause-place
gave-requires-clause-place c =
    rw c.router_mut.ensures.value (place (goal.at.gave-requires-clause-place c).After-self).place

pub gave-requires-clause-owed : goal.gave-requires-clause-owed
gave-requires-clause-owed c =
    subst (λ (r : RouterState). 0 < (input_at r c.args.port c.args.vc).owed) (sym c.router_mut.ensures.value)
    (rw c.self.view_is c.requires.owed)

pub invariant_of-self : goal.invariant_of-self
invariant_of-self c = (given (goal.at.invariant_of-self c).After-gave).0

pub returns : goal.returns
returns c = (given (goal.at.returns c).After-gave).1
