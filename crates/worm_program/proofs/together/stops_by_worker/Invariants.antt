use Rattle.std.proofs.Common.{◌≡◌, ◌<◌, ℕ, None, length}
use Rattle.std.specs.Prelude.{slice_index_or}
use Rattle.worm_program.specs.Together.{stop_turn}
use Rattle.worm_program.proofs.together.stops_by_worker.Given as goal

abbrev pub invariant-loop-worker : goal.invariant-loop-worker
invariant-loop-worker l = record {
  all : length l.table ≡ 16;
  done : (w : ℕ) → w < l.worker → slice_index_or l.table w None ≡ stop_turn l.stops w;
}
