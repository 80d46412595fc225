use Rattle.worm_wires.specs.Arrivals.{credits_of, flits_of}
use Rattle.worm_wires.specs.Inbox.{tray_of}
use Rattle.worm_wires.specs.Wiring.{in_link, out_link}
use Rattle.worm_wires.proofs.InboxFilled.{IsFilled}
use Rattle.worm_wires.proofs.links.inbox_of.Given as goal

abbrev pub invariant-loop-port : goal.invariant-loop-port
invariant-loop-port l = record {
  flits : IsFilled (tray_of l.arrivals.flits l.fronts.flits)
      (λ p. flits_of l.lists (in_link l.wiring l.node p)) l.port;
  credits : IsFilled (tray_of l.arrivals.credits l.fronts.credits)
      (λ o. credits_of l.lists (out_link l.wiring l.node o)) l.port;
}
