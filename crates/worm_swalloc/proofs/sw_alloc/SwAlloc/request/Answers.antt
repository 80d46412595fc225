use Rattle.std.proofs.Common.{◌<◌, ◌∙◌, arith, ap, Some, None, slice_index_or, []}
use Rattle.std.specs.Option.{option_map}
use Rattle.worm_swalloc.specs.SwAlloc.{SwAllocState, request_of}
use Rattle.worm_swalloc.proofs.SwitchPass.{named_is}
use Rattle.worm_swalloc.proofs.sw_alloc.SwAlloc.request.Goals as goal

pub returns-in_err-vc : goal.returns-in_err-vc
returns-in_err-vc c =
    let s : SwAllocState = record {
      ports = c.self.inside.ports;
      vcs = c.self.inside.vcs;
      inputs = c.self.inside.inputs;
      outputs = c.self.inside.outputs;
    } in
    let port_in : c.args.port < c.self.inside.ports = rw (← c.self.view_is) at c.requires in
    let few = c.self.invariant.few_ports in
    rw (← c.self.view_is)
    (c.from_residual.ensures ∙ ap (request_of (slice_index_or c.args.ready.now c.args.port []))
    (named_is s c.args.ready.now c.args.port c.ready_lines-lines.result c.index-self-port.result None c.self.invariant
    port_in (omega arith) c.ready_lines-lines.ensures.lines c.in_err-vc.ensures.winner))

pub returns : goal.returns
returns c =
    let s : SwAllocState = record {
      ports = c.self.inside.ports;
      vcs = c.self.inside.vcs;
      inputs = c.self.inside.inputs;
      outputs = c.self.inside.outputs;
    } in
    let port_in : c.args.port < c.self.inside.ports = rw (← c.self.view_is) at c.requires in
    let few = c.self.invariant.few_ports in
    rw (← c.self.view_is)
    (ap (option_map (λ out. record { vc = c.in_ok-vc.vc; out = out })) c.out_port-out.ensures
    ∙ ap (request_of (slice_index_or c.args.ready.now c.args.port []))
    (named_is s c.args.ready.now c.args.port c.ready_lines-lines.result c.index-self-port.result (Some c.in_ok-vc.vc)
    c.self.invariant port_in (omega arith) c.ready_lines-lines.ensures.lines c.in_ok-vc.ensures.winner))
