use Rattle.std.proofs.Common.{◌≡◌, List, Option, ℕ, ap, subst, ◌∙◌, refl, sym, arith}
use Rattle.std.proofs.lemmas.Bool.{eqb-true}
use Rattle.std.proofs.lemmas.Grind.{common_steps}
use Rattle.worm_swalloc.specs.SwAlloc.{SwAllocState, AreApart, IsSwitchMatching, sw_grants, sw_after}
use Rattle.worm_router.specs.Router.{RouterState, router_state}
use Rattle.worm_router.specs.Allocation.{ready_outs, switch_grants, after_choose}
use Rattle.worm_router.specs.Busy.{HasArbiters}
use Rattle.worm_router.proofs.FullBuffers.{full_as}
use Rattle.worm_router.proofs.NothingReady.{arbiters_stay}
use Rattle.worm_router.proofs.ReadyApart.{ready_apart}
use Rattle.worm_router.proofs.ReadyOuts.{first_of, ready_table}
use Rattle.worm_router.proofs.router.Router.grant_ready.Goals as goal

-- the router as the code has it
abbrev here : goal.After-pass → RouterState
here c = router_state c.self.inside.routes.mesh c.self.inside.routes.node c.self.inside.classes c.self.inside.depth
    c.self.inside.inputs.items c.self.inside.outputs.items c.self.inside.channel_alloc c.self.inside.switch_alloc

pub invariant_of-self : goal.invariant_of-self
invariant_of-self c = record {
  router = record {
    lists = c.self.invariant.router.lists;
    allocators = record {
      channel_ports = c.self.invariant.router.allocators.channel_ports;
      channel_vcs = c.self.invariant.router.allocators.channel_vcs;
      switch_ports = grind (arith, common_steps);
      switch_vcs = grind (arith, common_steps);
    };
  };
  arbiters = subst HasArbiters (sym c.pass.ensures.after) (arbiters_stay _ _ c.self.invariant.arbiters);
  busy = c.self.invariant.busy;
  demand = record { requests = c.self.invariant.demand.requests; free = c.self.invariant.demand.free };
  fronts = c.self.invariant.fronts;
  holders = record {
    held = c.self.invariant.holders.held;
    holds = c.self.invariant.holders.holds;
    fit = c.self.invariant.holders.fit;
  };
  outs = c.self.invariant.outs;
  no_credit = record { each = c.self.invariant.no_credit.each };
  owes_all = record { each = c.self.invariant.owes_all.each };
  links = c.self.invariant.links;
  full = full_as _ _ _ _ _ _ refl c.self.invariant.full;
  classes = c.self.invariant.classes;
}

-- the channels that may send are those that the records say
told : (c : goal.After-pass) → c.new-ready.result ≡ ready_outs (here c)
told c =
    c.new-ready.ensures
    ∙ ready_table (here c) _ _ _ c.ready-among.result c.self.invariant c.ready-among.ensures

pub returns-clause-grants : goal.returns-clause-grants
returns-clause-grants c =
    c.pass.ensures.grants ∙ ap (sw_grants c.self.inside.switch_alloc) (told c)
    ∙ ap switch_grants c.self.view_is

pub returns-clause-after : goal.returns-clause-after
returns-clause-after c =
    ap (λ (s : SwAllocState). record (here c) { switch_alloc = s })
    (c.pass.ensures.after ∙ ap (sw_after c.self.inside.switch_alloc) (told c))
    ∙ ap after_choose c.self.view_is

pub returns-clause-matching : goal.returns-clause-matching
returns-clause-matching c =
    subst (λ (r : RouterState). IsSwitchMatching r.switch_alloc (ready_outs r) c.pass.result) c.self.view_is
    (subst (λ (t : List (List (Option ℕ))). IsSwitchMatching c.self.inside.switch_alloc t c.pass.result)
    (told c) c.pass.ensures.matching)

pub new-ready-requires : goal.new-ready-requires
new-ready-requires c = λ p v p_in v_in there. first_of _ _ _ _ (sym (c.ready-among.ensures p v p_in v_in) ∙ there)

-- where each port has one channel, they are apart
pub pass-requires : goal.pass-requires
pass-requires c = λ one.
    let r : RouterState = router_state c.self.inside.routes.mesh c.self.inside.routes.node c.self.inside.classes
    c.self.inside.depth c.self.inside.inputs.items c.self.inside.outputs.items c.self.inside.channel_alloc
    c.self.inside.switch_alloc in
    let ready : c.new-ready.result ≡ ready_outs r =
    c.new-ready.ensures ∙ ready_table r _ _ _ c.ready-among.result c.self.invariant c.ready-among.ensures in
    subst (AreApart c.self.inside.switch_alloc) (sym ready)
    (ready_apart r c.self.invariant.router c.self.invariant.holders
    (sym c.total.ensures.value ∙ eqb-true c.total.result 1 one)
    c.self.invariant.router.allocators.switch_ports c.self.invariant.router.allocators.switch_vcs)
