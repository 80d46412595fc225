use Rattle.std.proofs.Common.{true, ℕ, ◌≡◌, ◌<◌, List, None, Option, ap, slice_index_or, subst, ◌∙◌}
use Rattle.worm_mesh.specs.Address.{node_count}
use Rattle.worm_router.specs.Allocation.{switch_grants}
use Rattle.worm_router.specs.Router.{RouterState}
use Rattle.worm_swalloc.specs.declared.grant.SwGrant.{SwGrant}
use Rattle.worm_vcalloc.specs.ChannelSet.{has}
use Rattle.worm_swalloc.specs.SwAlloc.{AreGranted}
use Rattle.worm_region.specs.Moves.{AreReady, IsReady, chosen_router}
use Rattle.worm_region.specs.State.{NetState, router_at, with_router}
use Rattle.worm_region.specs.Turns.{Chooses, ReachesAt}
use Rattle.worm_region.proofs.PassIsGrants.{chosen_in, named_ready, ready_there, there_still}
use Rattle.worm_region.proofs.GrantedSent.{granted_one}
use Rattle.worm_region.proofs.region.Region.choose.Goals as goal

-- the node's router after the pass
chosen : (c : goal.After-granted) →
    c.grant_ready.new.self ≡ chosen_router (router_at c.self.inside.fabric c.args.node)
unfolding chosen_router
chosen c = c.grant_ready.ensures.after ∙ ap (λ (r : RouterState). chosen_router r) c.router_mut.ensures.value

-- what was granted is ready
ready : (c : goal.After-granted) →
    AreReady (router_at c.self.inside.fabric c.args.node) (switch_grants (router_at c.self.inside.fabric c.args.node))
ready c =
    subst (λ (r : RouterState). AreReady r (switch_grants r)) c.router_mut.ensures.value
    (record {
      each = λ p g granted.
          named_ready c.router_mut.result.now p g.vc g.out
          (c.grant_ready.ensures.matching.requested p g
          (ap (λ (gs : List (Option SwGrant)). slice_index_or gs p None) c.grant_ready.ensures.grants ∙ granted)).0;
    })

granted : (c : goal.After-granted) →
    AreGranted (switch_grants (router_at c.self.inside.fabric c.args.node)) c.granted.result
granted c =
    subst (λ (r : RouterState). AreGranted (switch_grants r) c.granted.result) c.router_mut.ensures.value
    (subst (λ (gs : List (Option SwGrant)). AreGranted gs c.granted.result) c.grant_ready.ensures.grants
    c.granted.ensures)

pub invariant_of-self : goal.invariant_of-self
invariant_of-self c =
    rw (chosen c) (chosen_in c.self.inside.fabric c.args.node c.self.invariant (rw (c.self.view_is) c.requires)).0

pub returns-clause-reaches : goal.returns-clause-reaches
returns-clause-reaches c =
    rw (chosen c, ← c.self.view_is)
    (chosen_in c.self.inside.fabric c.args.node c.self.invariant (rw (c.self.view_is) c.requires)).1

pub returns-clause-chooses : goal.returns-clause-chooses
returns-clause-chooses c =
    subst (λ (s : NetState). Chooses c.args.node c.granted.result s
    (with_router c.self.inside.fabric c.args.node c.grant_ready.new.self)) c.self.view_is
    (granted c, ap (λ (r : RouterState). with_router c.self.inside.fabric c.args.node r) (chosen c))

-- a channel of the set is ready, as it was before the pass
ready_at : (c : goal.After-granted) (p v : ℕ) → p < 7 → v < 8 → has c.granted.result p v ≡ true
    → IsReady (router_at c.self.inside.fabric c.args.node) p v
ready_at c p v p_in v_in is =
    let grants = switch_grants (router_at c.self.inside.fabric c.args.node) in
    let grant = granted_one grants c.granted.result p v (granted c) p_in v_in is in
    subst (IsReady (router_at c.self.inside.fabric c.args.node) p) grant.2 ((ready c).each p grant.0 grant.1)

pub returns-clause-there : goal.returns-clause-there
returns-clause-there c = λ p v p_in v_in is.
    let s = c.self.inside.fabric in
    let x = c.args.node in
    let here : x < node_count s.mesh = rw (c.self.view_is) c.requires in
    let new = with_router s x c.grant_ready.new.self in
    let chosen : ReachesAt x s new = rw (chosen c) (chosen_in s x c.self.invariant here).1 in
    there_still s new x p v chosen.config (ready_there s x p v c.self.invariant here (ready_at c p v p_in v_in is))
