use Rattle.std.proofs.Common.{arith}
use Rattle.std.proofs.lemmas.Grind.{common_steps}
use Rattle.worm_flit.proofs.small_set.SmallSet.contains.Goals as goal

pub returns : goal.returns
returns c = grind (arith, common_steps)
