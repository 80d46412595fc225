use Rattle.std.proofs.Common.{map, take}
use Rattle.worm_report.specs.declared.row.Row.TheVariants.{Delivered}
use Rattle.worm_report.specs.Writing.{PutsRows}
use Rattle.worm_report.proofs.Written.{done}
use Rattle.worm_report.proofs.report.put_arrived.Given as goal

abbrev pub invariant-loop-flit : goal.invariant-loop-flit
invariant-loop-flit g l = PutsRows g.W.Write.contents l.fn.desk l.desk done
    (map (λ flit. Delivered l.node flit) (take l.flit-index l.flits))
