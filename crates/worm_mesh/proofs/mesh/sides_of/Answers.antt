use Rattle.std.proofs.Common.{rules}
use Rattle.worm_mesh.proofs.mesh.sides_of.Goals as goal

pub returns-clause-value : goal.returns-clause-value
returns-clause-value c = search rules

pub returns-clause-few : goal.returns-clause-few
returns-clause-few c = search rules
