use Rattle.std.proofs.Common.{◌<◌, arith, refl, None, replicate}
use Rattle.worm_swalloc.specs.SwAlloc.{SwAllocState, after_granting}
use Rattle.worm_swalloc.proofs.SoleIsGranted.{asks_none, asks_past, sole_none, sole_granted}
use Rattle.worm_swalloc.proofs.sw_alloc.SwAlloc.grant_sole.Goals as goal

-- the request is granted
pub returns : goal.returns
returns c =
    let s : SwAllocState = record {
      ports = c.self.inside.ports;
      vcs = c.self.inside.vcs;
      inputs = c.self.inside.inputs;
      outputs = c.self.inside.outputs;
    } in
    let few = c.self.invariant.few_ports in
    let within : c.args.port < c.self.inside.ports = rw (← c.self.view_is) at c.requires.port in
    let b = sole_granted s (after_granting s c.args.port c.in-Some.grant) c.args.port c.in-Some.grant (replicate 7 None)
    c.sole.result c.self.invariant (omega arith) (omega arith) within c.if-grant-ports.false refl c.sole.ensures refl in
    record {
      grants = rw (← c.self.view_is, c.in-Some.is) b.grants_are;
      after = rw (c.move_past.ensures, ← c.self.view_is, c.in-Some.is) b.state;
    }

-- nothing is named
pub returns-in_default : goal.returns-in_default
returns-in_default c =
    let s : SwAllocState = record {
      ports = c.self.inside.ports;
      vcs = c.self.inside.vcs;
      inputs = c.self.inside.inputs;
      outputs = c.self.inside.outputs;
    } in
    let few = c.self.invariant.few_ports in
    let within : c.args.port < c.self.inside.ports = rw (← c.self.view_is) at c.requires.port in
    let b = sole_none s c.args.port c.args.request c.new.result c.self.invariant (omega arith) (omega arith) within
    (λ out _. asks_none c.args.request out c.in_default.is) c.new.ensures in
    record { grants = rw (← c.self.view_is) b.grants_are; after = rw (← c.self.view_is) b.state }

-- it is for none of the output ports
pub returns-then-grant-ports : goal.returns-then-grant-ports
returns-then-grant-ports c =
    let s : SwAllocState = record {
      ports = c.self.inside.ports;
      vcs = c.self.inside.vcs;
      inputs = c.self.inside.inputs;
      outputs = c.self.inside.outputs;
    } in
    let few = c.self.invariant.few_ports in
    let within : c.args.port < c.self.inside.ports = rw (← c.self.view_is) at c.requires.port in
    let b = sole_none s c.args.port c.args.request c.new-then-grant-ports.result c.self.invariant (omega arith)
    (omega arith) within
    (λ out below. asks_past c.args.request c.in-Some.grant c.self.inside.ports out c.in-Some.is c.if-grant-ports.true
    below) c.new-then-grant-ports.ensures in
    record { grants = rw (← c.self.view_is) b.grants_are; after = rw (← c.self.view_is) b.state }
