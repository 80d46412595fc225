use Rattle.worm_report.specs.declared.row.Row.TheVariants.{Delivered}
use Rattle.worm_report.proofs.Written.{each_then, each_stop}
use Rattle.worm_report.proofs.report.put_arrived.Goals as goal

pub returns-in_err-put_row : goal.returns-in_err-put_row
returns-in_err-put_row g c = each_stop (λ flit. Delivered c.args.node flit) c.args.flits.now c.loop-flit.flit-index _
    c.loop-flit-test.true c.from_residual.ensures.1 c.loop-flit.invariant c.in_err-put_row.ensures.written

pub loop-flit-preserved : goal.loop-flit-preserved
loop-flit-preserved g c = each_then (λ flit. Delivered c.args.node flit) c.args.flits.now c.loop-flit.flit-index _
    c.loop-flit-test.true c.loop-flit.invariant c.in_ok-put_row.ensures.written
