use Rattle.worm_swalloc.specs.SwAlloc.{SwAllocState}
use Rattle.worm_swalloc.proofs.SwitchPass.{AskedBelow, asked_start, asked_more, asked_all, not_asked}
use Rattle.worm_swalloc.proofs.sw_alloc.SwAlloc.gather.Goals as goal

pub loop-port-init : goal.loop-port-init
loop-port-init c = asked_start c.args.self.now c.args.ready.now c.keys-left.result c.args.asked.now c.requires

pub ask-requires-clause-none : goal.ask-requires-clause-none
ask-requires-clause-none c =
    not_asked c.args.self.now c.args.ready.now c.keys-left.result c.loop-port.left c.pop_port.new.self c.in-Some.port
    c.loop-port.asked c.loop-port.invariant c.in-Some.ensures

pub loop-port-preserved-then-port-ports : goal.loop-port-preserved-then-port-ports
loop-port-preserved-then-port-ports c =
    let s : SwAllocState = record {
      ports = c.self.inside.ports;
      vcs = c.self.inside.vcs;
      inputs = c.self.inside.inputs;
      outputs = c.self.inside.outputs;
    } in
    let b : AskedBelow s c.args.ready.now c.keys-left.result c.loop-port.left c.loop-port.asked =
    rw (← c.self.view_is) at c.loop-port.invariant in
    rw (← c.self.view_is)
    (asked_more s c.args.ready.now c.keys-left.result c.loop-port.left c.pop_port.new.self c.in-Some.port
    c.loop-port.asked c.ask.new.asked
    c.self.invariant c.keys-left.ensures b c.in-Some.ensures c.if-port-ports.true
    (rw (← c.self.view_is) at c.ask.ensures))

pub returns-clause-named : goal.returns-clause-named
returns-clause-named c =
    let s : SwAllocState = record {
      ports = c.self.inside.ports;
      vcs = c.self.inside.vcs;
      inputs = c.self.inside.inputs;
      outputs = c.self.inside.outputs;
    } in
    let b : AskedBelow s c.args.ready.now c.keys-left.result c.loop-port.left c.loop-port.asked =
    rw (← c.self.view_is) at c.loop-port.invariant in
    rw (← c.self.view_is)
    (asked_all s c.args.ready.now c.keys-left.result c.loop-port.left c.loop-port.asked c.self.invariant
    c.keys-left.ensures b c.in_default.ensures.0)
