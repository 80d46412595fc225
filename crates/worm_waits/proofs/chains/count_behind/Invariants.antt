use Rattle.std.proofs.Common.{◌≡◌, ◌≤◌, ◌+◌, ◌-◌, length}
use Rattle.worm_waits.specs.Chains.{behind, follow}
use Rattle.worm_waits.proofs.chains.count_behind.Given as goal

abbrev pub invariant-loop-step : goal.invariant-loop-step
invariant-loop-step l = record {
  counted : l.count + length (follow l.waits (length l.waits - l._step) l.at) ≡ length (behind l.waits l.wait);
  few : l.count ≤ l._step;
}
