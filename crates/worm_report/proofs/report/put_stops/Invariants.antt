use Rattle.std.proofs.Common.{get_or, None}
use Rattle.worm_report.specs.Report.{rows_below, stop_rows}
use Rattle.worm_report.specs.Writing.{PutsRows}
use Rattle.worm_report.proofs.Written.{done}
use Rattle.worm_report.proofs.report.put_stops.Given as goal

abbrev pub invariant-loop-worker : goal.invariant-loop-worker
invariant-loop-worker g l = PutsRows g.W.Write.contents l.fn.desk l.desk done
    (rows_below (λ worker. stop_rows worker (get_or l.stops worker None)) l.worker)
