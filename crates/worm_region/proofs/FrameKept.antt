-- A node that is written leaves the lists their shape, and a step of the theory leaves what the moves need.
use Rattle.std.proofs.Common.{◌≡◌, ℕ, ◌<◌, inl, inr, List, length, arith, refl, sym, subst, ◌∙◌, Bool}
use Rattle.std.proofs.Math.ListN.{length-set}
use Rattle.std.proofs.lemmas.List.{get_or_default}
use Rattle.worm_flit.specs.declared.Flit.{Flit}
use Rattle.worm_records.specs.declared.OutRecord.{OutRecord}
use Rattle.worm_router.specs.Router.{ChannelState}
use Rattle.worm_theory.specs.Shape.{IsMesh}
use Rattle.worm_theory.specs.Network.{Network}
use Rattle.worm_theory.specs.Steps.{Step, IsThere, Enabled, after}
use Rattle.worm_theory.proofs.Places.{number_cases}
use Rattle.worm_mesh.specs.Address.{node_count}
use Rattle.worm_region.specs.Resting.{no_node, nth_node}
use Rattle.worm_region.specs.Shape.{net_shape}
use Rattle.worm_node.specs.declared.node.Node.{Node}
use Rattle.worm_region.specs.State.{NetState, IsFramed, IsNodeOf, shape, network_of, node_at}
use Rattle.worm_wires.specs.Links.{LinkView}
use Rattle.worm_node.specs.NewNodes.{fresh_node}
use Rattle.worm_region.specs.State.{router_at, with_node, with_router}
use Rattle.worm_region.specs.Workable.{IsWorkableBy, Works}
use Rattle.worm_region.specs.Moves.{done_step}
use Rattle.worm_region.specs.Replies.{Hindered, IsMade}
use Rattle.worm_region.proofs.NodeWritten.{node_at-put}
use Rattle.worm_region.proofs.StaysWorking.{step_works}
use Rattle.worm_theory.proofs.Shapes.{shape_is_mesh}

-- a framed network's shape is what the theory asks for
pub framed_mesh : (s : NetState) → IsFramed s → IsMesh (shape s)
unfolding net_shape
framed_mesh s framed = shape_is_mesh s.mesh s.channels s.depth framed.radices framed.classes

-- a node of the list is the network's
pub is_nth : (s : NetState) (x : ℕ) → IsFramed s → x < node_count s.mesh → nth_node s.nodes x ≡ node_at s x
is_nth s x framed x_in =
    let all = framed.all_nodes in
    get_or_default s.nodes x no_node (fresh_node s.mesh s.channels s.depth x) (omega arith)

-- a network whose lists stand for what the theory makes of one that moves can be made in is such a one
pub kept : (s : NetState) (nodes : List Node) (links : List LinkView) (step : Step) → {own : ℕ → Bool} →
    IsWorkableBy own s → IsThere (shape s) step → Enabled (shape s) (network_of s) step
    → IsFramed (record s { nodes = nodes; links = links })
    → network_of (record s { nodes = nodes; links = links }) ≡ after (shape s) (network_of s) step
    → IsWorkableBy own (record s { nodes = nodes; links = links })
kept s nodes links step {own} net there enabled framed e =
    let mesh = framed_mesh s net.framed in
    record {
      framed = framed;
      works =
          subst (λ (n : Network). Works (shape s) own n) (sym e)
          (step_works (shape s) mesh (network_of s) step there enabled net.works);
    }

-- a step that is there, enabled and done is made, and leaves a network that moves can be made in
pub step_made : (s : NetState) (nodes : List Node) (links : List LinkView) (step : Step) → {own : ℕ → Bool} →
    IsWorkableBy own s → IsThere (shape s) step → (Hindered s step → ⊥)
    → Enabled (shape s) (network_of s) step
    × (network_of (record s { nodes = nodes; links = links }) ≡ after (shape s) (network_of s) step)
    × IsFramed (record s { nodes = nodes; links = links })
    → record s { nodes = nodes; links = links } ≡ done_step s step
    → IsWorkableBy own (record s { nodes = nodes; links = links })
    × IsMade s step (record s { nodes = nodes; links = links })
step_made s nodes links step net there free stands same = (
  kept s nodes links step net there stands.0 stands.2 stands.1,
  record {
    there = there;
    enabled = stands.0;
    free = free;
    after_it = stands.1;
    config = record { mesh = refl; channels = refl; depth = refl; names = refl; own = refl };
    exact = same;
    framed = stands.2;
  },
)

-- a node's place in the frame, after a write
pub node_framed : (s : NetState) (x : ℕ) (n : Node) → IsFramed s → x < length s.nodes →
    IsNodeOf s.mesh s.channels s.depth x n → IsFramed (with_node s x n)
node_framed s x n framed there new = record {
  radices = framed.radices;
  classes = framed.classes;
  least_depth = framed.least_depth;
  most_depth = framed.most_depth;
  all_nodes = rw length-set framed.all_nodes;
  all_links = framed.all_links;
  each_node = λ y within. elim (number_cases y x) [
    | inl here ↦
        let at : node_at (with_node s x n) y ≡ n = rw (node_at-put s x n y there, here.0) refl in
        let itself : IsNodeOf s.mesh s.channels s.depth y n = rw here.1 new in
        subst (λ (m : Node). IsNodeOf s.mesh s.channels s.depth y m) (sym at) itself
    | inr away ↦
        let at : node_at (with_node s x n) y ≡ node_at s y = rw (node_at-put s x n y there, away.0) refl in
        let y_in : y < length s.nodes = rw length-set at within in
        subst (λ (m : Node). IsNodeOf s.mesh s.channels s.depth y m) (sym at) (framed.each_node y y_in)
  ];
  rooms = framed.rooms;
}

-- a node with other channel lists of the same lengths, another list of its sink
pub node_of : (mesh channels : List ℕ) (depth x : ℕ) (n : Node) (ins : List ChannelState) (outs : List OutRecord)
    (came : List Flit) → IsNodeOf mesh channels depth x n
    → length ins ≡ length n.router.inputs → length outs ≡ length n.router.outputs
    → IsNodeOf mesh channels depth x (record n {
      router = record n.router { inputs = ins; outputs = outs };
      sink = record n.sink { delivered = came };
    })
node_of mesh channels depth x n ins outs came old same_ins same_outs = record {
  same_mesh = old.same_mesh;
  same_node = old.same_node;
  same_channels = old.same_channels;
  same_depth = old.same_depth;
  all_inputs = same_ins ∙ old.all_inputs;
  all_outputs = same_outs ∙ old.all_outputs;
  source_node = old.source_node;
  source_nodes = old.source_nodes;
  source_channels = old.source_channels;
  source_holds = old.source_holds;
  fed_within = old.fed_within;
  sink_node = old.sink_node;
}

-- a node with other channel lists of the same lengths
pub router_framed : (s : NetState) (x : ℕ) (ins : List ChannelState) (outs : List OutRecord) → IsFramed s →
    x < length s.nodes → length ins ≡ length (router_at s x).inputs → length outs ≡ length (router_at s x).outputs
    → IsFramed (with_router s x (record (router_at s x) { inputs = ins; outputs = outs }))
router_framed s x ins outs framed there same_ins same_outs =
    node_framed s x (record (node_at s x) { router = record (router_at s x) { inputs = ins; outputs = outs } }) framed
    there
    (node_of s.mesh s.channels s.depth x (node_at s x) ins outs (node_at s x).sink.delivered
    (framed.each_node x there) same_ins same_outs)
