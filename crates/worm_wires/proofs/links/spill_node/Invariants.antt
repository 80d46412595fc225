use Rattle.std.proofs.Common.{◌≡◌, ℕ}
use Rattle.worm_wires.specs.Inbox.{AreSeenAlike, AreSpilled, inbox_at, inboxes_by}
use Rattle.worm_wires.proofs.links.spill_node.Given as goal

abbrev pub invariant-loop-port : goal.invariant-loop-port
invariant-loop-port l = record {
  kept : AreSeenAlike l.wiring l.arrivals l.initial.lists.items l.initial.fronts.items l.lists.items l.fronts.items;
  spilled : AreSpilled (inbox_at (inboxes_by l.arrivals l.fronts.items) l.node) l.port;
  others : (y : ℕ) → (y ≡ l.node → ⊥) → inbox_at (inboxes_by l.arrivals l.fronts.items) y
      ≡ inbox_at (inboxes_by l.arrivals l.initial.fronts.items) y;
}
