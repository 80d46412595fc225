use Rattle.std.proofs.Common.{◌≡◌, ◌≤◌, take}
use Rattle.worm_theory.specs.Steps.{packets_in}
use Rattle.worm_core.proofs.totals.packets_ended.Given as goal

abbrev pub invariant-loop-flit : goal.invariant-loop-flit
invariant-loop-flit l = record {
  value : l.ended ≡ packets_in (take l.flit-index l.flits);
  bound : l.ended ≤ l.flit-index;
}
