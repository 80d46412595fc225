use Rattle.std.proofs.Common.{arith}
use Rattle.std.proofs.lemmas.Grind.{common_steps}
use Rattle.worm_term.proofs.source.Source.front.Goals as goal

pub returns : goal.returns
returns c = grind (arith, common_steps)
