use Rattle.std.proofs.Common.{◌≡◌, ℕ, ◌<◌, sym, ◌∙◌, ap, subst, None, replicate, arith}
use Rattle.worm_vcalloc.specs.Table.{cell}
use Rattle.worm_vcalloc.proofs.PassAgrees.{none_where_not_some}
use Rattle.worm_vcalloc.proofs.SetMembers.{has-empty}
use Rattle.worm_swalloc.specs.Front.{with_front}
use Rattle.worm_swalloc.specs.SwAlloc.{SwAllocState, IsSwAlloc, sw_grants, IsSwitchMatching, granted, all_named}
use Rattle.worm_swalloc.specs.SwAlloc.{sole_named, granted_of}
use Rattle.worm_swalloc.proofs.SwitchPass.{matching, sw_grants_none, sw_after_none, named_within, pass_is}
use Rattle.worm_swalloc.proofs.GrantsOfSet.{below_more}
use Rattle.worm_swalloc.proofs.SoleIsGranted.{sole_is_all, sole_within}
use Rattle.worm_swalloc.proofs.sw_alloc.SwAlloc.grant_ready.Goals as goal

-- where no channel is ready
nothing_ready : (c : goal.After-new) (p v : ℕ) → p < 7 → v < 8 → cell c.args.ready.now p v None ≡ None
nothing_ready c p v lp lv = none_where_not_some (cell c.args.ready.now p v None)
    (sym (c.keys.ensures p v lp lv) ∙ has-empty c.keys.result p v (sym c.is_empty.ensures ∙ c.if-is_empty.true))

pub returns-then-is_empty-clause-grants : goal.returns-then-is_empty-clause-grants
returns-then-is_empty-clause-grants c =
    let s : SwAllocState = record {
      ports = c.self.inside.ports;
      vcs = c.self.inside.vcs;
      inputs = c.self.inside.inputs;
      outputs = c.self.inside.outputs;
    } in
    rw (← c.self.view_is) (c.new.ensures ∙ sym (sw_grants_none s c.args.ready.now c.self.invariant (nothing_ready c)))

pub returns-then-is_empty-clause-after : goal.returns-then-is_empty-clause-after
returns-then-is_empty-clause-after c =
    let s : SwAllocState = record {
      ports = c.self.inside.ports;
      vcs = c.self.inside.vcs;
      inputs = c.self.inside.inputs;
      outputs = c.self.inside.outputs;
    } in
    let few = c.self.invariant.few_ports in
    rw (← c.self.view_is) (sym (sw_after_none s c.args.ready.now c.self.invariant (omega arith) (omega arith)
    (nothing_ready c)))

pub returns-then-is_empty-clause-matching : goal.returns-then-is_empty-clause-matching
returns-then-is_empty-clause-matching c =
    let s : SwAllocState = record {
      ports = c.self.inside.ports;
      vcs = c.self.inside.vcs;
      inputs = c.self.inside.inputs;
      outputs = c.self.inside.outputs;
    } in
    rw (← c.self.view_is) (subst (IsSwitchMatching s c.args.ready.now)
    (sw_grants_none s c.args.ready.now c.self.invariant (nothing_ready c) ∙ sym c.new.ensures)
    (matching s c.args.ready.now c.self.invariant))

-- one port alone has ready channels

sound : (c : goal.After-grant_sole)
    → IsSwAlloc c.args.self.now.ports c.args.self.now.vcs c.args.self.now.inputs c.args.self.now.outputs
sound c = rw (← c.self.view_is) c.self.invariant

sole_named_is : (c : goal.After-grant_sole)
    → sole_named c.in-Some.port c.request-request.result ≡ all_named c.args.self.now c.args.ready.now
sole_named_is c = sole_is_all c.args.self.now c.args.ready.now c.in-Some.port c.request-request.result (sound c)
    c.in-Some.ensures.within c.in-Some.ensures.sole c.request-request.ensures

sole_granted_is : (c : goal.After-grant_sole) → c.grant_sole.result ≡ sw_grants c.args.self.now c.args.ready.now
sole_granted_is c =
    c.grant_sole.ensures.grants ∙ ap (λ r. with_front c.args.self.now.ports
    (granted c.args.self.now r c.args.self.now.ports) (replicate 7 None)) (sole_named_is c)

pub grant_sole-requires-clause-channel : goal.grant_sole-requires-clause-channel
grant_sole-requires-clause-channel c =
    sole_within c.args.self.now c.args.ready.now c.in-Some.port c.request-request.result
    (rw (← c.self.view_is) c.self.invariant) c.in-Some.ensures.within c.in-Some.ensures.sole c.request-request.ensures

pub returns-in-Some-clause-grants : goal.returns-in-Some-clause-grants
returns-in-Some-clause-grants c = sole_granted_is c

pub returns-in-Some-clause-after : goal.returns-in-Some-clause-after
returns-in-Some-clause-after c =
    pass_is c.args.self.now c.grant_sole.new.self c.args.ready.now
    (sole_named c.in-Some.port c.request-request.result) c.grant_sole.result
    (rw (← c.self.view_is) (let few = c.self.invariant.few_ports in omega arith)) (sole_named_is c) (sole_granted_is c)
    c.grant_sole.ensures.after

pub returns-in-Some-clause-matching : goal.returns-in-Some-clause-matching
returns-in-Some-clause-matching c =
    subst (IsSwitchMatching c.args.self.now c.args.ready.now) (sym (sole_granted_is c))
    (matching c.args.self.now c.args.ready.now (sound c))

-- several have

pub grant_named-granted-requires : goal.grant_named-granted-requires
grant_named-granted-requires c = named_within c.args.self.now c.args.ready.now c.gather.new.asked c.gather.ensures.ready
    c.gather.ensures.named

pub among-requires-clause-below : goal.among-requires-clause-below
among-requires-clause-below c =
    rw c.into_requests.ensures
    (below_more c.args.self.now.vcs 8 c.gather.new.asked c.gather.ensures.ready.few_channels
    (named_within c.args.self.now c.args.ready.now c.gather.new.asked c.gather.ensures.ready c.gather.ensures.named))

pub among-requires-clause-requested : goal.among-requires-clause-requested
among-requires-clause-requested c = rw c.into_requests.ensures c.grant_named-granted.ensures.requested

-- the grants are those of the pass
granted_is : (c : goal.After-among) → granted_of c.gather.new.asked c.grant_named-granted.result
    ≡ sw_grants c.args.self.now c.args.ready.now
granted_is c =
    c.grant_named-granted.ensures.grants
    ∙ ap (λ r. with_front c.args.self.now.ports (granted c.args.self.now r c.args.self.now.ports) (replicate 7 None))
    c.gather.ensures.named

among_is : (c : goal.After-among) → c.among.result ≡ sw_grants c.args.self.now c.args.ready.now
among_is c = c.among.ensures ∙ ap (λ r. granted_of r c.grant_named-granted.result) c.into_requests.ensures
    ∙ granted_is c

pub returns-clause-after : goal.returns-clause-after
returns-clause-after c =
    let few = c.self.invariant.few_ports in
    pass_is c.args.self.now c.grant_named-granted.new.self c.args.ready.now c.gather.new.asked
    (granted_of c.gather.new.asked c.grant_named-granted.result)
    (rw (← c.self.view_is) (omega arith)) c.gather.ensures.named (granted_is c)
    c.grant_named-granted.ensures.after

pub returns-clause-matching : goal.returns-clause-matching
returns-clause-matching c =
    subst (IsSwitchMatching c.args.self.now c.args.ready.now) (sym (among_is c))
    (matching c.args.self.now c.args.ready.now c.gather.ensures.ready)
