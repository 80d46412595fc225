use Rattle.std.proofs.Common.{take}
use Rattle.worm_core.specs.LaneSet.{AllMarked, KeepsMarks}
use Rattle.worm_core.proofs.busy.LaneSet.mark_flits.Given as goal

abbrev pub invariant-loop-flit : goal.invariant-loop-flit
invariant-loop-flit l = record {
  kept : KeepsMarks l.initial.self l.self;
  marked : AllMarked l.self (take l.flit-index l.flits);
}
