use Rattle.std.proofs.Common.{rules}
use Rattle.worm_mesh.proofs.mesh.Mesh.new.Goals as goal

pub returns-in_default : goal.returns-in_default
returns-in_default c = search rules
