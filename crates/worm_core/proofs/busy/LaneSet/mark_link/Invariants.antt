use Rattle.std.proofs.Common.{take}
use Rattle.worm_region.specs.Moves.{link_out}
use Rattle.worm_region.specs.State.{link_at}
use Rattle.worm_core.specs.LaneSet.{AllMarked, KeepsMarks}
use Rattle.worm_core.proofs.busy.LaneSet.mark_link.Given as goal

abbrev pub invariant-loop-i : goal.invariant-loop-i
invariant-loop-i l = record {
  kept : KeepsMarks l.initial.self l.self;
  marked : AllMarked l.self (take l.i (link_at l.fabric (link_out l.fabric l.node l.port)).flits);
}
