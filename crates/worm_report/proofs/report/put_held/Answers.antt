use Rattle.worm_report.specs.declared.row.Row.TheVariants.{Underway}
use Rattle.worm_report.proofs.Written.{each_then, each_stop}
use Rattle.worm_report.proofs.report.put_held.Goals as goal

pub returns-in_err-put_row : goal.returns-in_err-put_row
returns-in_err-put_row g c = each_stop (λ held. Underway c.args.lane held) c.args.underway.now c.loop-held.held-index _
    c.loop-held-test.true c.from_residual.ensures.1 c.loop-held.invariant c.in_err-put_row.ensures.written

pub loop-held-preserved : goal.loop-held-preserved
loop-held-preserved g c = each_then (λ held. Underway c.args.lane held) c.args.underway.now c.loop-held.held-index _
    c.loop-held-test.true c.loop-held.invariant c.in_ok-put_row.ensures.written
