-- Nodes at rest: where nothing comes in by a link, their turn changes nothing. Which are is kept beside the list
-- of nodes; a node that is not kept may be at rest as well.
use Rattle.std.specs.Prelude.{ℕ, ◌≡◌, ◌<◌, Bool, true, false, List, [], length, slice_index_or, slice_set}
use Rattle.worm_router.specs.Router.{RouterState, terminal}
use Rattle.worm_router.specs.Rest.{IsAtRest}
use Rattle.worm_term.specs.Source.{SourceState, classes, front_of}
use Rattle.worm_node.specs.NewNodes.{fresh_node}
use Rattle.worm_node.specs.Node.{can_enter}
use Rattle.worm_node.specs.declared.node.Node.{Node}

-- the router is at rest, and the source has no flit for which there is room
pub record IsResting (n : Node) : Type 0 where
  pub rest : IsAtRest n.router
  pub no_feed : (k : ℕ) → k < classes n.source → can_enter n.router (terminal n.router) (front_of n.source k) ≡ false

-- a node that is not there
abbrev pub no_node : Node
no_node = fresh_node [] [] 0 0

abbrev pub nth_node : List Node → ℕ → Node
nth_node nodes x = slice_index_or nodes x no_node

-- the nodes with another router in one of them
abbrev pub put_router : List Node → ℕ → RouterState → List Node
put_router nodes x r = slice_set nodes x (record (nth_node nodes x) { router = r })

-- and with another source
abbrev pub put_source : List Node → ℕ → SourceState → List Node
put_source nodes x t = slice_set nodes x (record (nth_node nodes x) { source = t })

-- each node that is kept as resting is
abbrev pub KnowsResting : List Node → List Bool → Type 0
KnowsResting nodes kept = (x : ℕ) → x < length nodes → slice_index_or kept x false ≡ true → IsResting (nth_node nodes x)
