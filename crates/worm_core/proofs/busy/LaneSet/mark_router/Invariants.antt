use Rattle.std.proofs.Common.{ℕ, ◌<◌}
use Rattle.worm_router.specs.Router.{width, input_at}
use Rattle.worm_core.specs.LaneSet.{AllMarked, KeepsMarks}
use Rattle.worm_core.proofs.busy.LaneSet.mark_router.Given as goal

abbrev pub invariant-loop-port : goal.invariant-loop-port
invariant-loop-port l = record {
  kept : KeepsMarks l.initial.self l.self;
  marked : (p v : ℕ) → p < l.port
      → v < width l.router → AllMarked l.self (input_at l.router p v).buffer;
}
