-- How many flits are under way: those that a source accepted, and no sink took yet. The number is kept beside the list
-- of nodes, where it is known.
use Rattle.std.specs.Prelude.{ℕ, ◌+◌, ◌<◌, ◌≡◌, List, length, Option, IfSome}
use Rattle.std.specs.List.{sum_by}
use Rattle.worm_term.specs.Queue.{QueueState}
use Rattle.worm_node.specs.Node.{HasClasses}
use Rattle.worm_region.specs.Resting.{nth_node}
use Rattle.worm_node.specs.declared.node.Node.{Node}

-- the flits that a node's source accepted, and those that its sink took; kept closed in goals, as the sums are
unfoldable pub accepted_by : Node → ℕ
accepted_by n = sum_by (λ (q : QueueState). length q.injected) n.source.queues

unfoldable pub taken_by : Node → ℕ
taken_by n = length n.sink.delivered

-- the same of all nodes
unfoldable pub accepted_in : List Node → ℕ
accepted_in nodes = sum_by accepted_by nodes

unfoldable pub taken_in : List Node → ℕ
taken_in nodes = sum_by taken_by nodes

-- the number, where it is known, is that of the flits accepted and not taken
abbrev pub IsUnderWay : ℕ → ℕ → Option ℕ → Type 0
IsUnderWay accepted taken count = IfSome count (λ n. accepted ≡ taken + n)

-- the source of each node
abbrev pub HaveClasses : ℕ → List Node → Type 0
HaveClasses count nodes = (x : ℕ) → x < length nodes → HasClasses count (nth_node nodes x)
