use Rattle.std.proofs.Common.{◌-◌, length, take}
use Rattle.worm_router.specs.Router.{input_at}
use Rattle.worm_core.specs.LaneSet.{AllMarked, KeepsMarks}
use Rattle.worm_core.proofs.busy.LaneSet.mark_channel.Given as goal

abbrev pub invariant-loop-flit : goal.invariant-loop-flit
invariant-loop-flit l = record {
  kept : KeepsMarks l.initial.self l.self;
  marked : AllMarked l.self (take l.i (input_at l.router l.port l.vc).buffer);
}

abbrev pub decreases-loop-flit : goal.decreases-loop-flit
decreases-loop-flit l = length (input_at l.router l.port l.vc).buffer - l.i
