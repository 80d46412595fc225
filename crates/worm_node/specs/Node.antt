-- What passes within a node, between its source, its router and its sink (Dally and Towles, chapters 13 and 16).
use Rattle.std.specs.Prelude.{ℕ, ◌<◌, ◌≡◌, Bool, true, false, nat_lt, length, Option, Some, None, IsSome}
use Rattle.worm_flit.specs.declared.Flit.{Flit}
use Rattle.worm_flit.specs.SmallSet.{has as has_small}
use Rattle.worm_mesh.specs.Address.{node_count}
use Rattle.worm_router.specs.Router.{RouterState, IsPlace, terminal, input_at, after_accept, after_send}
use Rattle.worm_term.specs.Queue.{waiting}
use Rattle.worm_term.specs.Sink.{after_take as after_sink}
use Rattle.worm_term.specs.Source.{after_fed, classes, front_of, queue_at}
use Rattle.worm_node.specs.declared.node.Node.{Node}

-- this flit, if there is one, may be given to the router at this port
abbrev pub FrontFits : RouterState → ℕ → Option Flit → Type 0
FrontFits r p None = Unit {0}
FrontFits r p (Some f) = IsPlace r p f.vc × (f.lane.dst < node_count r.mesh)

abbrev pub has_room : RouterState → ℕ → Flit → Bool
has_room r p f = nat_lt (length (input_at r p f.vc).buffer) r.depth

abbrev pub can_enter : RouterState → ℕ → Option Flit → Bool
can_enter r p None = false
can_enter r p (Some f) = has_room r p f

-- Feed: the source's front of the class goes into the injection buffer
abbrev pub fed_node : Node → ℕ → Option Flit → Node
fed_node n k None = n
fed_node n k (Some f) =
    record n { router = after_accept n.router (terminal n.router) f; source = after_fed n.source k }

-- a flit goes into the sink
abbrev pub delivered_node : Node → ℕ → ℕ → Flit → Node
delivered_node n p v f = record n { router = after_send n.router p v; sink = after_sink n.sink f }

-- the node's source has a flit of each class of a set, and of no other one for which there is room
pub record AreToFeed (n : Node) (set : ℕ) : Type 0 where
  pub some : (k : ℕ) → k < 8 → has_small set k ≡ true → IsSome (waiting (queue_at n.source k))
  pub rest : (k : ℕ) → k < 8 → has_small set k ≡ false →
      can_enter n.router (terminal n.router) (front_of n.source k) ≡ false

-- the node's source has so many classes, and a queue for each
pub record HasClasses (count : ℕ) (n : Node) : Type 0 where
  pub classes : classes n.source ≡ count
  pub queues : length n.source.queues ≡ count
