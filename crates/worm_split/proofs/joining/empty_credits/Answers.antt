use Rattle.std.proofs.Common.{arith}
use Rattle.std.proofs.lemmas.Grind.{common_steps}
use Rattle.worm_split.proofs.joining.empty_credits.Goals as goal

pub loop-vc-preserved : goal.loop-vc-preserved
loop-vc-preserved g c = grind (arith, common_steps)
