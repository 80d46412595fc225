use Rattle.worm_mesh.proofs.Digits.{AreLarge-from_radices}
use Rattle.worm_theory.proofs.LeavesWhereCrossed.{crosses_leaves}
use Rattle.worm_theory.proofs.meshes.test_is_exact.Goals as goal

pub returns : goal.returns
returns c = λ ks counts depth lane mesh there x port. crosses_leaves ks counts depth
    (AreLarge-from_radices ks mesh.radices) lane there x port
