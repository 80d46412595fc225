use Rattle.std.proofs.Common.{ℕ, ◌<◌}
use Rattle.worm_wires.specs.Inbox.{AreSeenAlike, AreSpilled, inbox_at, inboxes_by}
use Rattle.worm_wires.proofs.links.Links.into_states.Given as goal

abbrev pub invariant-loop-node : goal.invariant-loop-node
invariant-loop-node l = record {
  kept : AreSeenAlike l.wiring l.arrivals l.initial.lists.items l.initial.fronts.items l.lists.items l.fronts.items;
  spilled : (x : ℕ) → x < l.node → AreSpilled (inbox_at (inboxes_by l.arrivals l.fronts.items) x) 6;
}
