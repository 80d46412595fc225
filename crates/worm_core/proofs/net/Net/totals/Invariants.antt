use Rattle.std.proofs.Common.{◌≡◌, ◌≤◌, ◌*◌, ◌^◌, length}
use Rattle.worm_mesh.specs.Links.{sum_below}
use Rattle.worm_region.specs.State.{sink_at}
use Rattle.worm_region.specs.Totals.{injected_below, accepted_below}
use Rattle.worm_core.proofs.net.Net.totals.Given as goal

abbrev pub invariant-loop-node : goal.invariant-loop-node
invariant-loop-node l = record {
  injected : l.totals.injected ≡ sum_below (λ x. injected_below l.self x (length l.self.channels)) l.node;
  delivered : l.totals.delivered ≡ sum_below (λ x. length (sink_at l.self x).delivered) l.node;
  accepted : l.totals.accepted ≡ sum_below (λ x. accepted_below l.self x (length l.self.channels)) l.node;
  few_injected : l.totals.injected ≤ l.node * (4 * 2 ^ 64);
  few_delivered : l.totals.delivered ≤ l.node * 2 ^ 64;
  few_accepted : l.totals.accepted ≤ l.node * (4 * 2 ^ 64);
}
