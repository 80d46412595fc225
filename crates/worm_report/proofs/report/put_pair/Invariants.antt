use Rattle.worm_term.specs.Lanes.{lane_of}
use Rattle.worm_report.specs.Report.{rows_below, lane_rows}
use Rattle.worm_report.specs.Seen.{seen}
use Rattle.worm_report.specs.Writing.{PutsRows}
use Rattle.worm_report.proofs.Written.{done}
use Rattle.worm_report.proofs.report.put_pair.Given as goal

abbrev pub invariant-loop-class : goal.invariant-loop-class
invariant-loop-class g l = PutsRows g.W.Write.contents l.fn.desk l.desk done
    (rows_below (λ class. lane_rows (seen l.busy.net.now) (lane_of l.src l.dst class)) l.class)
