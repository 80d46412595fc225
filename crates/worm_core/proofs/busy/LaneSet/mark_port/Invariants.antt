use Rattle.std.proofs.Common.{ℕ, ◌<◌}
use Rattle.worm_router.specs.Router.{input_at}
use Rattle.worm_core.specs.LaneSet.{AllMarked, KeepsMarks}
use Rattle.worm_core.proofs.busy.LaneSet.mark_port.Given as goal

abbrev pub invariant-loop-vc : goal.invariant-loop-vc
invariant-loop-vc l = record {
  kept : KeepsMarks l.initial.self l.self;
  marked : (v : ℕ) → v < l.vc
      → AllMarked l.self (input_at l.router l.port v).buffer;
}
