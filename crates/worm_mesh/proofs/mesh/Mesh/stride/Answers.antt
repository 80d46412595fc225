use Rattle.std.proofs.Common.{rules}
use Rattle.worm_mesh.proofs.mesh.Mesh.stride.Goals as goal

pub returns-in_default-clause-value : goal.returns-in_default-clause-value
returns-in_default-clause-value c = search rules
