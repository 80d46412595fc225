-- How a mesh is stored: its radices, filled up with ones to three.
use Rattle.std.specs.Prelude.{ℕ, ◌≡◌, ◌-◌, ◌≤◌, List, ◌++◌, length, take, drop, replicate}
use Rattle.worm_mesh.specs.Address.{AreRadices}

-- what is stored: three numbers, of which the first `dims` are the radices of a mesh and the rest are ones
pub record IsStored (radices : List ℕ) (dims : ℕ) : Type 0 where
  pub three : length radices ≡ 3
  pub dims_fit : dims ≤ 3
  pub mesh : AreRadices (take dims radices)
  pub filled : drop dims radices ≡ replicate (3 - dims) 1

-- the three stored radices
abbrev pub filled_up : List ℕ → List ℕ
filled_up ks = ks ++ replicate (3 - length ks) 1
