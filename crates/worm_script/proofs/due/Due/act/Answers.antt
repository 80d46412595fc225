use Rattle.std.proofs.Common.{arith}
use Rattle.std.proofs.lemmas.Grind.{common_steps}
use Rattle.worm_script.proofs.due.Due.act.Goals as goal

pub returns : goal.returns
returns c = grind (arith, common_steps)
