use Rattle.std.proofs.Common.{map}
use Rattle.worm_report.specs.declared.row.Row.TheVariants.{Delivered}
use Rattle.worm_report.specs.Report.{rows_below}
use Rattle.worm_report.specs.Seen.{seen}
use Rattle.worm_report.specs.Writing.{PutsRows}
use Rattle.worm_report.proofs.Written.{done}
use Rattle.worm_report.proofs.report.put_delivered.Given as goal

abbrev pub invariant-loop-node : goal.invariant-loop-node
invariant-loop-node g l = PutsRows g.W.Write.contents l.fn.desk l.desk done
    (rows_below (λ node. map (λ flit. Delivered node flit) ((seen l.net).delivered node)) l.node)
