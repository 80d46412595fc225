use Rattle.std.proofs.Common.{ℕ, ◌<◌}
use Rattle.worm_core.specs.LaneSet.{IsMarkedOut, KeepsMarks}
use Rattle.worm_core.proofs.busy.LaneSet.mark_out.Given as goal

abbrev pub invariant-loop-port : goal.invariant-loop-port
invariant-loop-port l = record {
  kept : KeepsMarks l.initial.self l.self;
  marked : (o : ℕ) → o < l.port → IsMarkedOut l.fabric l.self l.node o;
}
