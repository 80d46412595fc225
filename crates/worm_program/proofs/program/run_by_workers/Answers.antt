use Rattle.std.proofs.Common.{rules}
use Rattle.worm_program.proofs.program.run_by_workers.Goals as goal

pub returns-in_err-texts-clause-ok : goal.returns-in_err-texts-clause-ok
returns-in_err-texts-clause-ok g c = search rules

pub returns-in_err-texts-clause-err : goal.returns-in_err-texts-clause-err
returns-in_err-texts-clause-err g c = search rules

pub returns-clause-ok : goal.returns-clause-ok
returns-clause-ok g c = search rules

pub returns-clause-err : goal.returns-clause-err
returns-clause-err g c = search rules
