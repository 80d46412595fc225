-- What a contract sees of a network, and the functions of places that it stands for (Dally and Towles, chapters 13 and
-- 16).
use Rattle.std.specs.Prelude.{ℕ, ◌*◌, ◌<◌, ◌≤◌, ◌≡◌, ◌==◌, cond, nat_lt, List, length, map, drop, sum}
use Rattle.std.specs.Prelude.{slice_index_or, slice_set}
use Rattle.arrayvec.specs.ArrayString.{ArrayString}
use Rattle.worm_flit.specs.Channels.{AreChannels}
use Rattle.worm_mesh.specs.Address.{AreRadices, node_count, has_neighbour}
use Rattle.worm_mesh.specs.Links.{links_before, link_count}
use Rattle.worm_records.specs.declared.OutRecord.{OutRecord}
use Rattle.worm_router.specs.Router.{RouterState, ChannelState, IsPlace, width, places, fresh_channel, free_output}
use Rattle.worm_router.specs.Router.{input_at, output_at}
use Rattle.worm_term.specs.Queue.{QueueState}
use Rattle.worm_term.specs.Sink.{SinkState}
use Rattle.worm_term.specs.Source.{SourceState, IsSource, queue_at}
use Rattle.worm_theory.specs.Shape.{Shape}
use Rattle.worm_theory.specs.Network.{Network}
use Rattle.worm_theory.specs.Sound.{Sound, OthersIdle, OnesClosed}
use Rattle.worm_theory.specs.Cut.{LanesCut}
use Rattle.worm_theory.specs.PacketCut.{PacketsHold}
use Rattle.worm_node.specs.NewNodes.{fresh_node}
use Rattle.worm_region.specs.Shape.{net_shape}
use Rattle.worm_region.specs.Owned.{sole}
use Rattle.worm_wires.specs.Links.{LinkView, blank_link}
use Rattle.worm_node.specs.declared.node.Node.{Node}
use Rattle.worm_region.specs.declared.owner.Owner.{Owner}

-- the texts of the classes' names
abbrev pub texts_of : List ArrayString → List (List ℕ)
texts_of names = map (λ (name : ArrayString). name.bytes) names

-- The configuration, the nodes by number, the links by number, and which of the nodes are owned by whoever has it: of
-- a whole network all are.
pub record NetState : Type 0 where
  pub mesh : List ℕ
  pub channels : List ℕ
  pub depth : ℕ
  pub names : List (List ℕ)
  pub nodes : List Node
  pub links : List LinkView
  pub own : Owner

abbrev pub net_state : List ℕ → List ℕ → ℕ → List (List ℕ) → List Node → List LinkView → Owner → NetState
net_state mesh channels depth names nodes links own = record {
  mesh = mesh;
  channels = channels;
  depth = depth;
  names = names;
  nodes = nodes;
  links = links;
  own = own;
}

abbrev pub node_at : NetState → ℕ → Node
node_at s x = slice_index_or s.nodes x (fresh_node s.mesh s.channels s.depth x)

abbrev pub link_at : NetState → ℕ → LinkView
link_at s k = slice_index_or s.links k blank_link

abbrev pub router_at : NetState → ℕ → RouterState
router_at s x = (node_at s x).router

abbrev pub source_at : NetState → ℕ → SourceState
source_at s x = (node_at s x).source

abbrev pub sink_at : NetState → ℕ → SinkState
sink_at s x = (node_at s x).sink

abbrev pub with_node : NetState → ℕ → Node → NetState
with_node s x n = record s { nodes = slice_set s.nodes x n }

abbrev pub with_router : NetState → ℕ → RouterState → NetState
with_router s x r = with_node s x (record (node_at s x) { router = r })

abbrev pub with_source : NetState → ℕ → SourceState → NetState
with_source s x t = with_node s x (record (node_at s x) { source = t })

abbrev pub with_link : NetState → ℕ → LinkView → NetState
with_link s k l = record s { links = slice_set s.links k l }

-- the channel of a router at any port and channel: past the last channel, and past the last port, a fresh one
abbrev pub input_of : RouterState → ℕ → ℕ → ChannelState
input_of r p v = cond (nat_lt v (width r)) (input_at r p v) (fresh_channel r.depth)

abbrev pub output_of : RouterState → ℕ → ℕ → OutRecord
output_of r o c = cond (nat_lt c (width r)) (output_at r o c) (free_output r.depth)

-- the link out of a node by a port
abbrev pub link_of : NetState → ℕ → ℕ → LinkView
link_of s x o = cond (has_neighbour s.mesh x o) (link_at s (links_before s.mesh x o)) blank_link

abbrev pub queue_of : NetState → ℕ → ℕ → QueueState
queue_of s x k = queue_at (source_at s x) k

-- the network as functions of its places
unfoldable pub network_of : NetState → Network
network_of s = record {
  buffer = λ x p v. (input_of (router_at s x) p v).buffer;
  in_record = λ x p v. (input_of (router_at s x) p v).state;
  last_out = λ x p v. (input_of (router_at s x) p v).last_out;
  owed = λ x p v. (input_of (router_at s x) p v).owed;
  holder = λ x o c. (output_of (router_at s x) o c).holder;
  credits = λ x o c. (output_of (router_at s x) o c).credits;
  out = λ x o. cond (o == 2 * length s.mesh) (sink_at s x).delivered (link_of s x o).flits;
  credit_list = λ x o. (link_of s x o).credits;
  injected = λ x k. (queue_of s x k).injected;
  unfed = λ x k. drop (queue_of s x k).fed (queue_of s x k).injected;
}

abbrev pub shape : NetState → Shape
shape s = net_shape s.mesh s.channels s.depth

-- the node's parts are those of this node of this network
pub record IsNodeOf (mesh channels : List ℕ) (depth x : ℕ) (n : Node) : Type 0 where
  pub same_mesh : n.router.mesh ≡ mesh
  pub same_node : n.router.node ≡ x
  pub same_channels : n.router.channels ≡ channels
  pub same_depth : n.router.depth ≡ depth
  pub all_inputs : length n.router.inputs ≡ places n.router
  pub all_outputs : length n.router.outputs ≡ places n.router
  pub source_node : n.source.node ≡ x
  pub source_nodes : n.source.nodes ≡ node_count mesh
  pub source_channels : n.source.channels ≡ channels
  pub source_holds : IsSource n.source
  pub fed_within : (k : ℕ) → (queue_at n.source k).fed ≤ length (queue_at n.source k).injected
  pub sink_node : n.sink.node ≡ x

-- the lists have the shape that the configuration asks for
pub record IsFramed (s : NetState) : Type 0 where
  pub radices : AreRadices s.mesh
  pub classes : AreChannels s.channels
  pub least_depth : 1 ≤ s.depth
  pub most_depth : s.depth ≤ 16
  pub all_nodes : length s.nodes ≡ node_count s.mesh
  pub all_links : length s.links ≡ link_count s.mesh
  pub each_node : (x : ℕ) → x < length s.nodes → IsNodeOf s.mesh s.channels s.depth x (node_at s x)
  pub rooms : (k : ℕ) → k < length s.links → sum s.channels * s.depth ≤ (link_at s k).room

-- what holds of each network
pub record IsNet (s : NetState) : Type 0 where
  pub framed : IsFramed s
  pub all_owned : s.own ≡ sole
  pub sound : Sound (shape s) (network_of s)
  pub cut : LanesCut (shape s) (network_of s)
  pub packets : PacketsHold (shape s) (network_of s)
  pub others : OthersIdle (shape s) (network_of s)
  pub closed : OnesClosed (shape s) (network_of s)

-- a place of the network's routers
pub record IsNetPlace (s : NetState) (x p v : ℕ) : Type 0 where
  pub node_in : x < length s.nodes
  pub place : IsPlace (router_at s x) p v

-- the configuration is the same, and so are the nodes that are owned
pub record IsSameConfig (old new : NetState) : Type 0 where
  pub mesh : new.mesh ≡ old.mesh
  pub channels : new.channels ≡ old.channels
  pub depth : new.depth ≡ old.depth
  pub names : new.names ≡ old.names
  pub own : new.own ≡ old.own
