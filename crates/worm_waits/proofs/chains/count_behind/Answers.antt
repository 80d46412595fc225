use Rattle.std.proofs.Common.{rules, ◌<◌, length, arith, ◌∙◌}
use Rattle.worm_waits.proofs.Following.{counted_none, counted_some}
use Rattle.worm_waits.proofs.chains.count_behind.Goals as goal
use Rattle.worm_waits.proofs.chains.count_behind.Goals.{in-Some, in-None}

pub loop-step-preserved : goal.loop-step-preserved
loop-step-preserved c =
    let waits = c.args.waits.now in
    let i = c.loop-step._step in
    let within : i < length waits = search rules in
    elim c.match-at.branch [
      | in-Some w ↦ record {
        counted = counted_some waits (length waits) i c.loop-step.count c.match-at.count _ w.in-Some.packet
            c.loop-step.at c.match-at.at within w.in-Some.is (w.at-is ∙ w.next-at.ensures) w.count-is
            c.loop-step.invariant.counted;
        few = omega (arith, w.count-is, c.loop-step.invariant.few);
      }
      | in-None w ↦ record {
        counted = counted_none waits (length waits) i c.loop-step.count c.match-at.count _ c.loop-step.at c.match-at.at
            w.in-None.is (w.at-is ∙ w.in-None.is) w.count-is c.loop-step.invariant.counted;
        few = omega (arith, w.count-is, c.loop-step.invariant.few);
      }
    ]
