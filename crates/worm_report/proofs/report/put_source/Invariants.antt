use Rattle.worm_report.specs.Report.{rows_below, pair_rows}
use Rattle.worm_report.specs.Seen.{seen}
use Rattle.worm_report.specs.Writing.{PutsRows}
use Rattle.worm_report.proofs.Written.{done}
use Rattle.worm_report.proofs.report.put_source.Given as goal

abbrev pub invariant-loop-dst : goal.invariant-loop-dst
invariant-loop-dst g l = PutsRows g.W.Write.contents l.fn.desk l.desk done
    (rows_below (λ dst. pair_rows (seen l.busy.net.now) l.src dst) l.dst)
