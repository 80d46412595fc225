use Rattle.std.proofs.Common.{arith}
use Rattle.std.proofs.lemmas.Grind.{common_steps}
use Rattle.worm_split.proofs.joining.empty_flits.Goals as goal

pub loop-flit-preserved : goal.loop-flit-preserved
loop-flit-preserved g c = grind (arith, common_steps)
