use Rattle.std.proofs.Common.{◌≡◌, ◌<◌, ℕ, length}
use Rattle.worm_mesh.specs.Ends.{AreEndsOf}
use Rattle.worm_split.specs.Exchange.{way_at}
use Rattle.worm_split.proofs.memory.make_ways.Given as goal

abbrev pub invariant-loop-number : goal.invariant-loop-number
invariant-loop-number l = record {
  count : length l.ways.items ≡ l.number;
  each : (k : ℕ) → k < l.number → AreEndsOf l.mesh k (way_at l.ways.items k);
}
