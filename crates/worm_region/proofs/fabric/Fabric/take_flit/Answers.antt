use Rattle.std.proofs.Common.{arith}
use Rattle.std.proofs.lemmas.Grind.{common_steps}
use Rattle.worm_region.proofs.fabric.Fabric.take_flit.Goals as goal

pub returns-clause-after : goal.returns-clause-after
returns-clause-after c = grind (arith, common_steps)
