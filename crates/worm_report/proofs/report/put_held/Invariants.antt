use Rattle.std.proofs.Common.{map, take}
use Rattle.worm_report.specs.declared.row.Row.TheVariants.{Underway}
use Rattle.worm_report.specs.Writing.{PutsRows}
use Rattle.worm_report.proofs.Written.{done}
use Rattle.worm_report.proofs.report.put_held.Given as goal

abbrev pub invariant-loop-held : goal.invariant-loop-held
invariant-loop-held g l = PutsRows g.W.Write.contents l.fn.desk l.desk done
    (map (λ held. Underway l.lane held) (take l.held-index l.underway))
