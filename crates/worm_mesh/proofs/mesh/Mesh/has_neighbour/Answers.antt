use Rattle.std.proofs.Common.{rules}
use Rattle.worm_mesh.proofs.mesh.Mesh.has_neighbour.Goals as goal

pub returns-else-port-eq0-clause-value : goal.returns-else-port-eq0-clause-value
returns-else-port-eq0-clause-value c = search rules
