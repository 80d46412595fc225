use Rattle.std.proofs.Common.{◌≡◌, ◌<◌, ◌∙◌, ℕ, Ok, ap, is_some, subst, sym, Bool}
use Rattle.worm_router.specs.Router.{IsPlace, RouterState, after_grant, can_grant, width}
use Rattle.worm_theory.specs.Steps.{Grant, IsThere}
use Rattle.worm_region.specs.State.{NetState, router_at, shape, with_router}
use Rattle.worm_region.specs.Replies.{Replies}
use Rattle.worm_region.specs.Answers.{moved_of}
use Rattle.worm_region.specs.Workable.{IsWorkable}
use Rattle.worm_region.proofs.GrantAgrees.{grant_answers}
use Rattle.worm_region.proofs.PlacesThere.{place_inside}
use Rattle.worm_region.proofs.ReachedBySteps.{answered_inside}
use Rattle.worm_region.proofs.region.Region.grant.Goals as goal

pub router_mut-requires : goal.router_mut-requires
router_mut-requires c =
    (place_inside _ c.args.self.now c.args.node c.args.port c.args.vc c.self.view_is c.self.invariant.framed
    (c.requires.0, c.requires.1, c.requires.2)).node_in

pub grant-requires-clause-place : goal.grant-requires-clause-place
grant-requires-clause-place c =
    subst (λ (r : RouterState). IsPlace r c.args.port c.args.vc) (sym c.router_mut.ensures.value)
    (place_inside _ c.args.self.now c.args.node c.args.port c.args.vc c.self.view_is c.self.invariant.framed
    (c.requires.0, c.requires.1, c.requires.2)).place

pub grant-requires-clause-out_channel : goal.grant-requires-clause-out_channel
grant-requires-clause-out_channel c =
    subst (λ (r : RouterState). c.args.out_vc < width r) (sym c.router_mut.ensures.value)
    (place_inside _ c.args.self.now c.args.node c.args.port c.args.out_vc c.self.view_is c.self.invariant.framed
    (c.requires.0, c.requires.1, c.requires.3)).place.channel_in

-- what it leaves, and what its answer means, where the router was lent and the network is seen
made : (s now : NetState) (x p v o : ℕ) (lent left : RouterState) (done : Bool) → s ≡ now → IsWorkable s
    → IsThere (shape now) (Grant x p v o) → lent ≡ router_at s x → done ≡ is_some (can_grant lent p v o)
    → left ≡ after_grant lent p v o
    → IsWorkable (with_router s x left)
    × Replies now (Grant x p v o) (Ok (moved_of done)) (with_router s x left)
made s now x p v o lent left done same works there lent_is enabled left_is =
    let step = Grant x p v o in
    let inside : IsThere (shape s) step = subst (λ (t : NetState). IsThere (shape t) step) (sym same) there in
    let t = with_router s x (after_grant (router_at s x) p v o) in
    let granted = is_some (can_grant (router_at s x) p v o) in
    let found : done ≡ granted = enabled ∙ ap (λ (r : RouterState). is_some (can_grant r p v o)) lent_is in
    let is : left ≡ after_grant (router_at s x) p v o =
    left_is ∙ ap (λ (r : RouterState). after_grant r p v o) lent_is in
    subst (λ (r : RouterState). IsWorkable (with_router s x r)
    × Replies now step (Ok (moved_of done)) (with_router s x r)) (sym is)
    (subst (λ (b : Bool). IsWorkable t × Replies now step (Ok (moved_of b)) t) (sym found)
    (answered_inside s now t step (Ok (moved_of granted)) same (grant_answers s x p v o works inside)))

pub invariant_of-self : goal.invariant_of-self
invariant_of-self c =
    (made c.self.inside.fabric c.args.self.now c.args.node c.args.port c.args.vc c.args.out_vc
    c.router_mut.result.now c.grant.new.self c.grant.result c.self.view_is c.self.invariant c.requires
    c.router_mut.ensures.value c.grant.ensures.enabled c.grant.ensures.after).0

pub returns : goal.returns
returns c =
    (made c.self.inside.fabric c.args.self.now c.args.node c.args.port c.args.vc c.args.out_vc
    c.router_mut.result.now c.grant.new.self c.grant.result c.self.view_is c.self.invariant c.requires
    c.router_mut.ensures.value c.grant.ensures.enabled c.grant.ensures.after).1
