-- A mesh of which a network is made is not refused.
use Rattle.std.proofs.Common.{inl, inr, List, ℕ, arith}
use Rattle.worm_mesh.specs.Address.{AreRadices}
use Rattle.worm_mesh.specs.Faults.{IsFault}
use Rattle.worm_mesh.specs.declared.mesh.MeshFault.{MeshFault}
use Rattle.worm_mesh.specs.declared.mesh.MeshFault.TheVariants.{Radix, Dims, TooManyNodes}

pub not_fault : (radices : List ℕ) (fault : MeshFault) → AreRadices radices → IsFault radices fault → ⊥
not_fault radices Radix mesh broken = broken mesh.radices
not_fault radices Dims mesh broken = elim broken.1 [
  | inl none ↦ let some = mesh.some_dims in omega arith
  | inr many ↦ let few = mesh.few_dims in omega arith
]
not_fault radices TooManyNodes mesh broken = let few = mesh.few_nodes in let many = broken.3 in omega arith
