use Rattle.std.proofs.Common.{Ok, subst, sym}
use Rattle.worm_theory.specs.Steps.{Route, IsThere}
use Rattle.worm_region.specs.State.{IsNetPlace, NetState, shape}
use Rattle.worm_region.specs.Replies.{Replies}
use Rattle.worm_region.specs.Answers.{moved_of}
use Rattle.worm_region.specs.Workable.{IsWorkable}
use Rattle.worm_region.proofs.PlacesThere.{place_inside}
use Rattle.worm_region.proofs.RouteAgrees.{route_answers}
use Rattle.worm_region.proofs.ReachedBySteps.{answered_inside}
use Rattle.worm_region.proofs.region.Region.route.Goals as goal
use Rattle.worm_region.proofs.region.Region.route.Goals.{After-route, After-self}

-- the place is there, in the network inside too
there : (c : After-self) → IsThere (shape c.self.inside.fabric) (Route c.args.node c.args.port c.args.vc)
there c =
    subst (λ (s : NetState). IsThere (shape s) (Route c.args.node c.args.port c.args.vc)) (sym c.self.view_is)
    c.requires

place : (c : After-self) → IsNetPlace c.self.inside.fabric c.args.node c.args.port c.args.vc
place c =
    place_inside _ c.args.self.now c.args.node c.args.port c.args.vc c.self.view_is c.self.invariant.framed c.requires

pub route-requires : goal.route-requires
route-requires c = place (goal.at.route-requires c).After-self

-- what it leaves, and what its answer means
routed : (c : After-route) →
    let new = c.route.new.self in
    IsWorkable new
    × Replies c.args.self.now (Route c.args.node c.args.port c.args.vc) (Ok (moved_of c.route.result)) new
routed c =
    let s = c.self.inside.fabric in
    let step = Route c.args.node c.args.port c.args.vc in
    subst (λ (t : NetState). IsWorkable t × Replies c.args.self.now step (Ok (moved_of c.route.result)) t)
    (sym c.route.ensures.after)
    (answered_inside s c.args.self.now _ step (Ok (moved_of c.route.result)) c.self.view_is
    (route_answers s c.args.node c.args.port c.args.vc c.self.invariant (there (goal.at.After-route c).After-self)
    c.route.result c.route.ensures.enabled))

pub invariant_of-self : goal.invariant_of-self
invariant_of-self c = (routed (goal.at.invariant_of-self c).After-route).0

pub returns : goal.returns
returns c = (routed (goal.at.returns c).After-route).1
