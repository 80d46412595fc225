use Rattle.std.proofs.Common.{◌≡◌, ℕ, ◌<◌, length}
use Rattle.worm_wires.specs.Inbox.{IsInbox, AreSpilled, inbox_at, inboxes_by}
use Rattle.worm_wires.proofs.links.Links.new.Given as goal

abbrev pub invariant-loop-node : goal.invariant-loop-node
invariant-loop-node l = record {
  sets : length l.arrivals ≡ 256;
  all : length l.fronts.items ≡ 256;
  known : (x : ℕ) → x < l.node
      → IsInbox l.wiring l.states.items x (inbox_at (inboxes_by l.arrivals l.fronts.items) x)
      × AreSpilled (inbox_at (inboxes_by l.arrivals l.fronts.items) x) 8;
}
