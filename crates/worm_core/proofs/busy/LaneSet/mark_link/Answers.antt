use Rattle.std.proofs.Common.{◌≤◌, length, arith, subst}
use Rattle.std.proofs.lemmas.List.{take_all}
use Rattle.worm_region.specs.Moves.{link_out}
use Rattle.worm_region.specs.State.{link_at}
use Rattle.worm_core.specs.LaneSet.{AllMarked}
use Rattle.worm_core.proofs.Marks.{marked_more, keeps_more}
use Rattle.worm_core.proofs.busy.LaneSet.mark_link.Goals as goal

pub loop-i-preserved : goal.loop-i-preserved
loop-i-preserved c =
    let flits = (link_at c.args.fabric.now (link_out c.args.fabric.now c.args.node c.args.port)).flits in
    record {
      kept = keeps_more c.args.self.now c.loop-i.self c.mark.new.self c.flit.result.lane c.loop-i.invariant.kept
          c.mark.ensures;
      marked = marked_more c.loop-i.self c.mark.new.self flits c.loop-i.i c.flit.result c.flit.ensures
          c.mark.ensures c.loop-i.invariant.marked;
    }

pub returns-clause-marked : goal.returns-clause-marked
returns-clause-marked c =
    let flits = (link_at c.args.fabric.now (link_out c.args.fabric.now c.args.node c.args.port)).flits in
    let whole : length flits ≤ c.loop-i.i = omega arith in
    subst (AllMarked c.loop-i.self) (take_all c.loop-i.i flits whole) c.loop-i.invariant.marked
