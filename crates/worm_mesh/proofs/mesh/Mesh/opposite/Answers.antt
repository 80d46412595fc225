use Rattle.std.proofs.Common.{arith}
use Rattle.std.proofs.lemmas.Grind.{common_steps}
use Rattle.worm_mesh.proofs.mesh.Mesh.opposite.Goals as goal

pub returns-clause-value : goal.returns-clause-value
returns-clause-value c = grind (arith, common_steps)

pub returns-clause-twice : goal.returns-clause-twice
returns-clause-twice c = grind (arith, common_steps)

pub returns-clause-back : goal.returns-clause-back
returns-clause-back c = grind (arith, common_steps)
