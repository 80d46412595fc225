use Rattle.std.proofs.Common.{arith, sym, subst}
use Rattle.worm_router.specs.Router.{input_at}
use Rattle.worm_core.specs.LaneSet.{AllMarked}
use Rattle.worm_core.proofs.Marks.{marked_more, keeps_more}
use Rattle.worm_core.proofs.ViewLists.{below_end, buffer_few, take_end}
use Rattle.worm_core.proofs.busy.LaneSet.mark_channel.Goals as goal

pub overflow_add-i : goal.overflow_add-i
overflow_add-i c =
    let below = below_end (input_at c.args.router.now c.args.port c.args.vc).buffer c.loop-flit.i c.in-Some.flit
    (sym c.in-Some.ensures.value) in
    let few = buffer_few c.args.router.now c.args.port c.args.vc c.in-Some.ensures.sound in
    omega arith

pub loop-flit-smaller : goal.loop-flit-smaller
loop-flit-smaller c =
    let below = below_end (input_at c.args.router.now c.args.port c.args.vc).buffer c.loop-flit.i c.in-Some.flit
    (sym c.in-Some.ensures.value) in
    omega arith

pub loop-flit-preserved : goal.loop-flit-preserved
loop-flit-preserved c = record {
  kept = keeps_more c.args.self.now c.loop-flit.self c.mark.new.self c.in-Some.flit.lane c.loop-flit.invariant.kept
      c.mark.ensures;
  marked = marked_more c.loop-flit.self c.mark.new.self
      (input_at c.args.router.now c.args.port c.args.vc).buffer c.loop-flit.i c.in-Some.flit
      (sym c.in-Some.ensures.value) c.mark.ensures c.loop-flit.invariant.marked;
}

pub returns-clause-marked : goal.returns-clause-marked
returns-clause-marked c =
    subst (AllMarked c.loop-flit.self) (take_end (input_at c.args.router.now c.args.port c.args.vc).buffer c.loop-flit.i
    (sym c.in_default.ensures.value)) c.loop-flit.invariant.marked
