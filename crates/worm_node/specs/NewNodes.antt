-- The nodes of a new network.
use Rattle.std.specs.Prelude.{ℕ, ◌≡◌, ◌%◌, ◌<◌, List, [], Option, None, Some, length, slice_index_or}
use Rattle.worm_mesh.specs.Address.{node_count}
use Rattle.worm_router.specs.Router.{fresh_router}
use Rattle.worm_term.specs.Source.{fresh_source}
use Rattle.worm_node.specs.declared.node.Node.{Node}

-- a node as a new network has it; also what is read of a node that is not there
abbrev pub fresh_node : List ℕ → List ℕ → ℕ → ℕ → Node
fresh_node mesh channels depth x = record {
  router = fresh_router mesh x channels depth;
  source = fresh_source x (node_count mesh) channels;
  sink = record { node = x; delivered = [] };
}

-- nodes of a new network, each at its number
abbrev pub AreFresh : List ℕ → List ℕ → ℕ → List Node → Type 0
AreFresh mesh channels depth nodes =
    (x : ℕ) → slice_index_or nodes x (fresh_node mesh channels depth x) ≡ fresh_node mesh channels depth x

-- places for the nodes of a new network, each at its number, in which those stand whose number has a remainder by 16
-- below this
abbrev pub AreMade : List ℕ → List ℕ → ℕ → ℕ → List (Option Node) → Type 0
AreMade mesh channels depth groups places =
    (x : ℕ) → x < length places → x % 16 < groups
    → slice_index_or places x None ≡ Some (fresh_node mesh channels depth x)
