-- The output ports of the routes from one node, and its ports that face a link.
use Rattle.std.specs.Prelude.{◌≡◌, ℕ, ◌*◌, ◌<◌, ◌≤◌, List, length, slice_index, is_some, All}
use Rattle.worm_flit.specs.SmallSet.{has}
use Rattle.worm_mesh.specs.Address.{neighbour_of, node_count}
use Rattle.worm_route.specs.Route.{port_of}

-- whose routes they are
pub record RoutesView : Type 0 where
  pub mesh : List ℕ
  pub node : ℕ

-- the output port of the route from a node to each node of the mesh
pub record AreRoutes (mesh : List ℕ) (node : ℕ) (routes : List ℕ) : Type 0 where
  pub all : length routes ≡ node_count mesh
  pub each : (dst : ℕ) → dst < node_count mesh → slice_index routes dst ≡ port_of mesh node dst
  pub ports : All (λ port. port ≤ 2 * length mesh) routes

-- a set has the ports by which the node has a neighbour, and no others
abbrev pub AreLinked : List ℕ → ℕ → ℕ → Type 0
AreLinked mesh node set = (port : ℕ) → port < 8 → has set port ≡ is_some (neighbour_of mesh node port)
