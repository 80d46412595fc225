use Rattle.worm_flit.proofs.Owners.{owns-from_owner}
use Rattle.worm_theory.proofs.Channels.{owned_by}
use Rattle.worm_theory.proofs.Shapes.{shape_is_mesh}
use Rattle.worm_theory.proofs.meshes.is_a_mesh.Goals as goal

pub returns-clause-mesh : goal.returns-clause-mesh
returns-clause-mesh c = λ ks counts depth mesh classes. shape_is_mesh ks counts depth mesh classes

pub returns-clause-owned : goal.returns-clause-owned
returns-clause-owned c = λ ks counts depth class channel. (
  λ h. owns-from_owner counts class channel h.0 h.1,
  λ h. owned_by counts class channel h,
)
