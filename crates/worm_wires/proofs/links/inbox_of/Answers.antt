use Rattle.std.proofs.Common.{◌*◌, ◌≤◌, ◌∙◌, ℕ, Option, arith, ap, length}
use Rattle.std.specs.Prelude.{slice_get}
use Rattle.worm_wires.specs.Arrivals.{credits_of, flits_of}
use Rattle.worm_wires.specs.Inbox.{of_credits, of_flits, tray_of}
use Rattle.worm_wires.specs.Wiring.{in_link, out_link}
use Rattle.worm_wires.proofs.InboxFilled.{filled_more, filled_none, tray_filled}
use Rattle.worm_wires.proofs.Wired.{in_none, out_none}
use Rattle.worm_wires.proofs.links.inbox_of.Goals as goal

pub loop-port-init : goal.loop-port-init
loop-port-init c = record {
  flits = filled_none (tray_of c.new-arrivals.result.flits c.new-fronts.result.flits)
      (λ p. flits_of c.args.lists.now (in_link c.args.wiring.now c.args.node p))
      c.new-arrivals.ensures.flits c.new-fronts.ensures.flits;
  credits = filled_none (tray_of c.new-arrivals.result.credits c.new-fronts.result.credits)
      (λ o. credits_of c.args.lists.now (out_link c.args.wiring.now c.args.node o)) c.new-arrivals.ensures.credits
      c.new-fronts.ensures.credits;
}

pub loop-port-preserved : goal.loop-port-preserved
loop-port-preserved c =
    let inv = c.loop-port.invariant in
    let port = c.loop-port.port in
    record {
      flits = filled_more (tray_of c.loop-port.arrivals.flits c.loop-port.fronts.flits)
          (tray_of c.file.new.here c.file.new.self)
          (λ p. flits_of c.args.lists.now (in_link c.args.wiring.now c.args.node p)) port
          c.front_flit-flit.result c.loop-port-test.true c.file.ensures
          (c.front_flit-flit.ensures
          ∙ ap (λ (n : Option ℕ). slice_get (flits_of c.args.lists.now n) 0) c.link_into.ensures.value) inv.flits;
      credits = filled_more (tray_of c.loop-port.arrivals.credits c.loop-port.fronts.credits)
          (tray_of c.file-in-loop-port.new.here c.file-in-loop-port.new.self)
          (λ o. credits_of c.args.lists.now (out_link c.args.wiring.now c.args.node o)) port
          c.front_credit-credit.result c.loop-port-test.true c.file-in-loop-port.ensures
          (c.front_credit-credit.ensures
          ∙ ap (λ (n : Option ℕ). slice_get (credits_of c.args.lists.now n) 0) c.link_out.ensures.value) inv.credits;
    }

pub returns : goal.returns
returns c =
    let inv = c.loop-port.invariant in
    let few : 2 * length c.args.wiring.now ≤ 6 =
    omega (arith, c.terminal-terminal.ensures.value, c.terminal-terminal.ensures.bound) in
    let flits = tray_filled of_flits c.args.wiring.now c.args.lists.now c.args.node
    (tray_of c.loop-port.arrivals.flits c.loop-port.fronts.flits) c.loop-port.port c.loop-port-test.false
    c.loop-port.auto.port-end (λ p above. in_none c.args.wiring.now c.args.node p (omega (arith, few, above)))
    inv.flits in
    let credits = tray_filled of_credits c.args.wiring.now c.args.lists.now c.args.node
    (tray_of c.loop-port.arrivals.credits c.loop-port.fronts.credits) c.loop-port.port c.loop-port-test.false
    c.loop-port.auto.port-end (λ o above. out_none c.args.wiring.now c.args.node o (omega (arith, few, above)))
    inv.credits in
    record {
      inbox = record { flits = flits.0; credits = credits.0 };
      spilled = record { flits = flits.1; credits = credits.1 };
    }
