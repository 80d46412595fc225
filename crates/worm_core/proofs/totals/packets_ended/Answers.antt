use Rattle.std.proofs.Common.{arith}
use Rattle.std.proofs.lemmas.Grind.{common_steps}
use Rattle.worm_core.proofs.totals.packets_ended.Goals as goal

pub loop-flit-preserved : goal.loop-flit-preserved
loop-flit-preserved c = grind (arith, common_steps)
