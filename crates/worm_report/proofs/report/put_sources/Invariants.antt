use Rattle.worm_report.specs.Report.{rows_below, source_rows}
use Rattle.worm_report.specs.Seen.{seen}
use Rattle.worm_report.specs.Writing.{PutsRows}
use Rattle.worm_report.proofs.Written.{done}
use Rattle.worm_report.proofs.report.put_sources.Given as goal

abbrev pub invariant-loop-src : goal.invariant-loop-src
invariant-loop-src g l = PutsRows g.W.Write.contents l.fn.desk l.desk done
    (rows_below (λ src. source_rows (seen l.busy.net.now) src) l.src)
