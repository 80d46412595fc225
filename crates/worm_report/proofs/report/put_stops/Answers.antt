use Rattle.std.proofs.Common.{get_or, None}
use Rattle.worm_report.specs.Report.{stop_rows}
use Rattle.worm_report.proofs.Written.{below_none, below_then, below_stop}
use Rattle.worm_report.proofs.report.put_stops.Goals as goal

pub loop-worker-init : goal.loop-worker-init
loop-worker-init g c = below_none (λ worker. stop_rows worker (get_or c.args.stops.now worker None))

pub returns-in_err-put_stop : goal.returns-in_err-put_stop
returns-in_err-put_stop g c = below_stop
    (λ worker. stop_rows worker (get_or c.args.stops.now worker None)) c.loop-worker.worker 16
    (c.loop-worker-test.true) c.from_residual.ensures.1 c.loop-worker.invariant (c.in_err-put_stop.ensures)

pub loop-worker-preserved : goal.loop-worker-preserved
loop-worker-preserved g c = below_then (λ worker. stop_rows worker (get_or c.args.stops.now worker None))
    c.loop-worker.worker c.loop-worker.invariant (c.in_ok-put_stop.ensures)
