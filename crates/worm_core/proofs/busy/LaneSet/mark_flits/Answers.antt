use Rattle.std.proofs.Common.{◌≤◌, length, arith, subst}
use Rattle.std.proofs.lemmas.List.{take_all}
use Rattle.worm_core.specs.LaneSet.{AllMarked}
use Rattle.worm_core.proofs.Marks.{keeps_read, marked_read}
use Rattle.worm_core.proofs.busy.LaneSet.mark_flits.Goals as goal

pub loop-flit-preserved : goal.loop-flit-preserved
loop-flit-preserved c = record {
  kept = keeps_read c.args.self.now c.loop-flit.self c.mark.new.self c.args.flits.now c.loop-flit.flit-index _
      c.mark.ensures c.loop-flit.invariant.kept;
  marked = marked_read c.loop-flit.self c.mark.new.self c.args.flits.now c.loop-flit.flit-index _ c.mark.ensures
      c.loop-flit-test.true c.loop-flit.invariant.marked;
}

pub returns-clause-marked : goal.returns-clause-marked
returns-clause-marked c =
    let whole : length c.args.flits.now ≤ c.loop-flit.flit-index = omega arith in
    subst (AllMarked c.loop-flit.self) (take_all c.loop-flit.flit-index c.args.flits.now whole)
    c.loop-flit.invariant.marked
