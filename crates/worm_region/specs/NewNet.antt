-- What a new network is: a node fresh at each place, each link empty, with room for what all its channels may hold.
use Rattle.std.specs.Prelude.{ℕ, ◌≡◌, ◌*◌, ◌≤◌, List, length, sum, replicate}
use Rattle.worm_flit.specs.Channels.{AreChannels}
use Rattle.worm_mesh.specs.Address.{AreRadices, node_count}
use Rattle.worm_mesh.specs.Links.{link_count}
use Rattle.worm_node.specs.NewNodes.{AreFresh}
use Rattle.worm_region.specs.Owned.{sole}
use Rattle.worm_region.specs.State.{NetState}
use Rattle.worm_wires.specs.Links.{empty_link}

-- the limits of a configuration
pub record IsConfig (radices channels : List ℕ) (depth names : ℕ) : Type 0 where
  pub mesh : AreRadices radices
  pub classes : AreChannels channels
  pub least_depth : 1 ≤ depth
  pub most_depth : depth ≤ 16
  pub all_named : names ≡ length channels

pub record IsFresh (mesh channels : List ℕ) (depth : ℕ) (names : List (List ℕ)) (s : NetState) : Type 0 where
  pub same_mesh : s.mesh ≡ mesh
  pub same_channels : s.channels ≡ channels
  pub same_depth : s.depth ≡ depth
  pub same_names : s.names ≡ names
  pub all_owned : s.own ≡ sole
  pub all_nodes : length s.nodes ≡ node_count mesh
  pub nodes : AreFresh mesh channels depth s.nodes
  pub links : s.links ≡ replicate (link_count mesh) (empty_link (sum channels * depth))

-- two new networks of one configuration are the same
abbrev pub IsOneNetwork : List ℕ → List ℕ → ℕ → List (List ℕ) → Type 0
IsOneNetwork mesh channels depth names =
    (one other : NetState) → IsFresh mesh channels depth names one → IsFresh mesh channels depth names other
    → one ≡ other
