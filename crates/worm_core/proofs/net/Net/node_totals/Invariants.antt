use Rattle.std.proofs.Common.{◌≡◌, ◌≤◌, ◌*◌, ◌^◌}
use Rattle.worm_region.specs.Totals.{accepted_below}
use Rattle.worm_core.proofs.net.Net.node_totals.Given as goal

abbrev pub invariant-loop-class : goal.invariant-loop-class
invariant-loop-class l = record {
  accepted : l.accepted ≡ accepted_below l.self l.node l.class;
  few_accepted : l.accepted ≤ l.class * 2 ^ 64;
}
