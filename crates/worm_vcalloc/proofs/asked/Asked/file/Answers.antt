use Rattle.std.proofs.Common.{◌<◌, ◌||◌, ℕ, List, nat_lt, arith, length, slice_set, sym, ap, subst, ◌∙◌}
use Rattle.worm_flit.specs.SmallSet as small
use Rattle.worm_vcalloc.specs.Asked.{AreAllowed}
use Rattle.worm_vcalloc.specs.declared.asked.Asked.{Asked}
use Rattle.worm_vcalloc.proofs.RequestsFiled.{AreFiledBut, filed_start, filed_for, filed_nowhere, filed_all}
use Rattle.worm_vcalloc.proofs.RequestsFiled.{heard_none}
use Rattle.worm_vcalloc.proofs.asked.Asked.file.Goals as goal
use Rattle.worm_vcalloc.proofs.asked.Asked.file.Goals.{After-put-then-request-ports}
use Rattle.worm_vcalloc.proofs.asked.Asked.file.Goals.{
  else-port-ports-via-then-port-ports+then-vc-vcs+else-request-ports,
}
use Rattle.worm_vcalloc.proofs.asked.Asked.file.Goals.{else-port-ports-via-then-port-ports+else-vc-vcs}
use Rattle.worm_vcalloc.proofs.asked.Asked.file.Goals.{else-port-ports-via-else-port-ports}

pub loop-port-init : goal.loop-port-init
loop-port-init c =
    subst (λ (files : Asked). AreFiledBut c.args.waiting.now c.args.ports c.args.vcs c.waiting-left.result files)
    (sym c.requires.empty)
    (filed_start c.args.waiting.now c.args.ports c.args.vcs c.waiting-left.result c.waiting-left.ensures)

-- one that the router hears is filed
heard : (c : After-put-then-request-ports) (by_channel : List ℕ)
    → (1 < c.args.vcs → AreAllowed c.loop-port.self.by_channel by_channel c.in-Some.port c.in-Some.vc
    c.request-request.result.now.allowed)
    → AreFiledBut c.args.waiting.now c.args.ports c.args.vcs c.pop_first.new.self (record {
      by_port = slice_set c.loop-port.self.by_port c.request-request.result.now.out c.put.new.self;
      by_channel = by_channel;
      ports = c.put-then-request-ports.new.self;
    })
heard c by_channel allowed =
    let long : c.request-request.result.now.out < length c.loop-port.self.by_port =
    omega (arith, c.if-request-ports.true) in
    filed_for c.args.waiting.now c.args.ports c.args.vcs c.loop-port.left c.pop_first.new.self c.in-Some.port
    c.in-Some.vc _ c.put.new.self c.put-then-request-ports.new.self by_channel c.request-request.result.now
    c.loop-port.self _ c.loop-port.invariant c.in-Some.ensures (sym c.request-request.ensures) c.requires.few_ports
    c.if-port-ports.true c.if-vc-vcs.true c.if-request-ports.true long
    (ap (λ t. nat_lt 1 c.args.vcs || t) (c.contains.ensures
    ∙ ap (λ s. small.has s 0) c.from_bits-allowed.ensures)) c.put.ensures
    c.put-then-request-ports.ensures allowed

pub loop-port-preserved-then-vcs-gt1 : goal.loop-port-preserved-then-vcs-gt1
loop-port-preserved-then-vcs-gt1 c =
    heard (goal.at.loop-port-preserved-then-vcs-gt1 c).After-put-then-request-ports c.file_allowed.new.by_channel
    (λ many. rw (← c.from_bits-allowed.ensures) c.file_allowed.ensures)

pub loop-port-preserved-else-vcs-gt1 : goal.loop-port-preserved-else-vcs-gt1
loop-port-preserved-else-vcs-gt1 c =
    heard (goal.at.loop-port-preserved-else-vcs-gt1 c).After-put-then-request-ports c.loop-port.self.by_channel
    (λ many. absurd (omega (arith, many, c.if-vcs-gt1.false)))

pub loop-port-preserved : goal.loop-port-preserved
loop-port-preserved c =
    let foreign : c.in-Some.port < c.args.ports → c.in-Some.vc < c.args.vcs
    → c.request-request.result.now.out < c.args.ports → ⊥ =
    λ lp lv lo. elim c.else-port-ports.branch [
      | else-port-ports-via-then-port-ports+then-vc-vcs+else-request-ports w ↦
          omega (arith, lo, w.if-request-ports.false)
      | else-port-ports-via-then-port-ports+else-vc-vcs w ↦ omega (arith, lv, w.if-vc-vcs.false)
      | else-port-ports-via-else-port-ports w ↦ omega (arith, lp, w.if-port-ports.false)
    ] in
    filed_nowhere c.args.waiting.now c.args.ports c.args.vcs c.loop-port.left c.pop_first.new.self c.in-Some.port
    c.in-Some.vc c.loop-port.self c.loop-port.invariant c.in-Some.ensures
    (heard_none c.args.waiting.now c.args.ports c.args.vcs c.in-Some.port c.in-Some.vc c.request-request.result.now
    foreign (sym c.request-request.ensures))

pub returns : goal.returns
returns c =
    filed_all c.args.waiting.now c.args.ports c.args.vcs c.loop-port.left c.loop-port.self c.loop-port.invariant
    c.in_default.ensures.0
