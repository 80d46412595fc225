use Rattle.std.proofs.Common.{◌≡◌, ◌≤◌, ◌*◌, ◌^◌}
use Rattle.worm_region.specs.Totals.{injected_below}
use Rattle.worm_core.proofs.net.Net.node_injected.Given as goal

abbrev pub invariant-loop-class : goal.invariant-loop-class
invariant-loop-class l = record {
  injected : l.injected ≡ injected_below l.self l.node l.class;
  few_injected : l.injected ≤ l.class * 2 ^ 64;
}
