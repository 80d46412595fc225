use Rattle.std.proofs.Common.{◌≡◌, ◌<◌, ℕ, length}
use Rattle.worm_split.specs.Ends.{pair_at}
use Rattle.worm_split.specs.Exchange.{way_at}
use Rattle.worm_split.specs.Splits.{IsPairMade}
use Rattle.worm_split.proofs.memory.make_pairs.Given as goal

abbrev pub invariant-loop-k : goal.invariant-loop-k
invariant-loop-k l = record {
  count : length l.pairs.items ≡ l.k;
  each : (k : ℕ) → k < l.k → IsPairMade l.net l.workers (way_at l.ways.items k) (pair_at l.pairs.items k);
}
