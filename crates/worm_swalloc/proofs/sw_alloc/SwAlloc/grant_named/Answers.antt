use Rattle.std.proofs.Common.{arith, ap, ◌∙◌, sym, subst}
use Rattle.worm_swalloc.specs.SwAlloc.{SwAllocState, AreRequested, granted_of}
use Rattle.worm_swalloc.proofs.GrantsOfSet.{none_granted, none_requested}
use Rattle.worm_swalloc.proofs.ChoicesByPort.{ChoosingBelow, choosing_start, choosing_more, choosing_all}
use Rattle.worm_swalloc.proofs.sw_alloc.SwAlloc.grant_named.Goals as goal

pub loop-out-init : goal.loop-out-init
loop-out-init c =
    let s : SwAllocState = record {
      ports = c.self.inside.ports;
      vcs = c.self.inside.vcs;
      inputs = c.self.inside.inputs;
      outputs = c.self.inside.outputs;
    } in
    let few = c.self.invariant.few_ports in
    rw (← c.self.view_is) (
      choosing_start s c.args.named.now (granted_of c.args.named.now c.new-granted.result) c.askers-askers.result few
          (omega arith) (ap (granted_of c.args.named.now) c.new-granted.ensures ∙ none_granted c.args.named.now),
      subst (AreRequested c.args.named.now) (sym c.new-granted.ensures) (none_requested c.args.named.now),
    )

pub loop-out-preserved-then-out-ports : goal.loop-out-preserved-then-out-ports
loop-out-preserved-then-out-ports c =
    let s : SwAllocState = record {
      ports = c.self.inside.ports;
      vcs = c.self.inside.vcs;
      inputs = c.self.inside.inputs;
      outputs = c.self.inside.outputs;
    } in
    let few = c.self.invariant.few_ports in
    let b : ChoosingBelow s c.args.named.now c.askers-askers.result c.loop-out.left c.loop-out.self
    (granted_of c.args.named.now c.loop-out.granted) = rw (← c.self.view_is) at c.loop-out.invariant.0 in
    rw (← c.self.view_is) (
      choosing_more s c.args.named.now c.askers-askers.result c.loop-out.left c.pop_port.new.self c.in-Some.out
          c.loop-out.self c.choose_for.new.self (granted_of c.args.named.now c.loop-out.granted)
          (granted_of c.args.named.now c.choose_for.new.granted)
          c.self.invariant (omega arith) (omega arith) c.askers-askers.ensures b c.in-Some.ensures c.if-out-ports.true
          c.choose_for.ensures.grants c.choose_for.ensures.after,
      c.choose_for.ensures.requested,
    )

-- all have chosen
pub returns : goal.returns
returns c =
    let s : SwAllocState = record {
      ports = c.self.inside.ports;
      vcs = c.self.inside.vcs;
      inputs = c.self.inside.inputs;
      outputs = c.self.inside.outputs;
    } in
    let few = c.self.invariant.few_ports in
    let b : ChoosingBelow s c.args.named.now c.askers-askers.result c.loop-out.left c.loop-out.self
    (granted_of c.args.named.now c.loop-out.granted) = rw (← c.self.view_is) at c.loop-out.invariant.0 in
    let all = choosing_all s c.args.named.now c.askers-askers.result c.loop-out.left c.loop-out.self
    (granted_of c.args.named.now c.loop-out.granted) c.self.invariant (omega arith) c.askers-askers.ensures b
    c.in_default.ensures.0 in
    record {
      requested = c.loop-out.invariant.1;
      grants = rw (← c.self.view_is) all.grants_are;
      after = rw (← c.self.view_is) all.state;
    }
