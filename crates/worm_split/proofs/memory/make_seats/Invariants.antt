use Rattle.std.proofs.Common.{◌≡◌, length}
use Rattle.std.specs.Prelude.{All}
use Rattle.worm_split.specs.Splits.{IsSeat}
use Rattle.worm_split.proofs.memory.make_seats.Given as goal

abbrev pub invariant-loop-worker : goal.invariant-loop-worker
invariant-loop-worker l = record {
  all : All (IsSeat l.net l.pairs.items) l.seats.items;
  count : length l.seats.items ≡ l._worker;
}
