-- A fresh network's lists are framed, and stand for the empty network.
use Rattle.std.proofs.Common.{◌≡◌, ℕ, zero, suc, ◌+◌, ◌*◌, ◌<◌, ◌≤◌, ◌==◌, cond, nat_lt, inl, inr, List, [], ◌∷◌}
use Rattle.std.proofs.Common.{length, drop, get_or, sum, replicate, refl, arith, ap, sym, subst, ◌∙◌}
use Rattle.std.proofs.lemmas.List.{length-replicate}
use Rattle.worm_flit.specs.Channels.{AreChannels}
use Rattle.worm_mesh.specs.Address.{AreRadices, node_count, has_neighbour}
use Rattle.worm_mesh.specs.Links.{links_before, link_count}
use Rattle.worm_records.specs.declared.OutRecord.{OutRecord}
use Rattle.worm_router.specs.Router.{ChannelState, fresh_router, fresh_channel, free_output}
use Rattle.worm_term.specs.Queue.{QueueState, empty_queue}
use Rattle.worm_term.specs.Source.{fresh_source, queue_at}
use Rattle.worm_term.proofs.Order.{fresh_sound}
use Rattle.worm_theory.specs.Network.{Network}
use Rattle.worm_theory.specs.Steps.{empty}
use Rattle.worm_theory.specs.Sound.{Sound, OthersIdle, OnesClosed}
use Rattle.worm_theory.specs.Cut.{LanesCut}
use Rattle.worm_theory.specs.PacketCut.{PacketsHold}
use Rattle.worm_theory.proofs.Places.{bool_cases}
use Rattle.worm_theory.proofs.Bridge.{same_network}
use Rattle.worm_theory.proofs.Keeps.{empty_sound}
use Rattle.worm_theory.proofs.CutKeeps.{empty_cut}
use Rattle.worm_theory.proofs.PacketKeeps.{empty_packets}
use Rattle.worm_theory.proofs.Others.{empty_others}
use Rattle.worm_theory.proofs.Closed.{empty_closed}
use Rattle.worm_region.specs.Shape.{net_shape}
use Rattle.worm_region.specs.Owned.{sole}
use Rattle.worm_node.specs.declared.node.Node.{Node}
use Rattle.worm_region.specs.declared.owner.Owner.{Owner}
use Rattle.worm_wires.specs.Links.{LinkView, blank_link, empty_link}
use Rattle.worm_region.specs.State.{NetState, net_state, IsNet, IsFramed, IsNodeOf, shape, network_of, node_at}
use Rattle.worm_node.specs.NewNodes.{fresh_node}
use Rattle.worm_region.specs.State.{router_at, link_at, link_of, input_of, output_of, queue_of}
use Rattle.worm_node.specs.NewNodes.{AreFresh}
use Rattle.worm_region.specs.NewNet.{IsFresh, IsOneNetwork}
use Rattle.worm_region.specs.Workable.{IsWorkable}
use Rattle.worm_region.proofs.FrameKept.{framed_mesh}
use Rattle.worm_region.proofs.StaysWorking.{sound_works}

-- a list of one value reads as it at each place, and past its end as the value, too, where that is the default
pub all_one : {A : Type 0} (n i : ℕ) (v : A) → get_or (replicate n v) i v ≡ v
all_one {A} zero i v = refl
all_one {A} (suc n) zero v = refl
all_one {A} (suc n) (suc i) v = all_one n i v

pub input_fresh : (mesh : List ℕ) (x : ℕ) (channels : List ℕ) (depth p v : ℕ) →
    input_of (fresh_router mesh x channels depth) p v ≡ fresh_channel depth
input_fresh mesh x channels depth p v = elim (bool_cases (nat_lt v (sum channels))) [
  | inl within ↦
      rw within (all_one ((2 * length mesh + 1) * sum channels) (p * sum channels + v) (fresh_channel depth))
  | inr past ↦ rw past refl
]

output_fresh : (mesh : List ℕ) (x : ℕ) (channels : List ℕ) (depth o c : ℕ) →
    output_of (fresh_router mesh x channels depth) o c ≡ free_output depth
output_fresh mesh x channels depth o c = elim (bool_cases (nat_lt c (sum channels))) [
  | inl within ↦ rw within (all_one ((2 * length mesh + 1) * sum channels) (o * sum channels + c) (free_output depth))
  | inr past ↦ rw past refl
]

queue_fresh : (x nodes : ℕ) (channels : List ℕ) (k : ℕ) → queue_at (fresh_source x nodes channels) k ≡ empty_queue
queue_fresh x nodes channels k = all_one (length channels) k empty_queue

link_fresh : (n k room : ℕ) → ((get_or (replicate n (empty_link room)) k blank_link).flits ≡ []) ×
    ((get_or (replicate n (empty_link room)) k blank_link).credits ≡ [])
link_fresh zero k room = (refl, refl)
link_fresh (suc n) zero room = (refl, refl)
link_fresh (suc n) (suc k) room = link_fresh n k room

-- a fresh node is that of its number
pub fresh_is : (mesh channels : List ℕ) (depth x : ℕ)
    → IsNodeOf mesh channels depth x (fresh_node mesh channels depth x)
fresh_is mesh channels depth x = record {
  same_mesh = refl;
  same_node = refl;
  same_channels = refl;
  same_depth = refl;
  all_inputs = length-replicate ((2 * length mesh + 1) * sum channels) (fresh_channel depth);
  all_outputs = length-replicate ((2 * length mesh + 1) * sum channels) (free_output depth);
  source_node = refl;
  source_nodes = refl;
  source_channels = refl;
  source_holds = fresh_sound x (node_count mesh) channels (length channels) _ _ refl refl refl;
  fed_within =
      λ k. subst (λ (q : QueueState). q.fed ≤ length q.injected) (sym (queue_fresh x (node_count mesh) channels k))
      (omega arith);
  sink_node = refl;
}

module _ (mesh channels : List ℕ) (depth : ℕ) (names : List (List ℕ)) (nodes : List Node) (links : List LinkView)
    (own : Owner)
    (all : AreFresh mesh channels depth nodes)
    (no_links : links ≡ replicate (link_count mesh) (empty_link (sum channels * depth))) where
  abbrev s : NetState
  s = record {
    mesh =
        mesh;
    channels = channels;
    depth = depth;
    names = names;
    nodes = nodes;
    links = links;
    own = own;
  }

  ins : (x p v : ℕ) → input_of (router_at s x) p v ≡ fresh_channel depth
  ins x p v = ap (λ (n : Node). input_of n.router p v) (all x) ∙ input_fresh mesh x channels depth p v

  outs : (x o c : ℕ) → output_of (router_at s x) o c ≡ free_output depth
  outs x o c = ap (λ (n : Node). output_of n.router o c) (all x) ∙ output_fresh mesh x channels depth o c

  queues : (x k : ℕ) → queue_of s x k ≡ empty_queue
  queues x k = ap (λ (n : Node). queue_at n.source k) (all x) ∙ queue_fresh x (node_count mesh) channels k

  on_links : (k : ℕ) → ((link_at s k).flits ≡ []) × ((link_at s k).credits ≡ [])
  on_links k = rw no_links (link_fresh (link_count mesh) k (sum channels * depth))

  link_flits : (x o : ℕ) → (link_of s x o).flits ≡ []
  link_flits x o =
      elim (bool_cases (has_neighbour mesh x o)) [
        | inl has ↦ rw has (on_links (links_before mesh x o)).0
        | inr none ↦ rw none refl
      ]

  link_credits : (x o : ℕ) → (link_of s x o).credits ≡ []
  link_credits x o =
      elim (bool_cases (has_neighbour mesh x o)) [
        | inl has ↦ rw has (on_links (links_before mesh x o)).1
        | inr none ↦ rw none refl
      ]

  outs_none : (x o : ℕ) → cond (o == 2 * length mesh) (node_at s x).sink.delivered (link_of s x o).flits ≡ []
  outs_none x o = elim (bool_cases (o == 2 * length mesh)) [
    | inl at ↦ rw at (ap (λ (n : Node). n.sink.delivered) (all x))
    | inr off ↦ rw off (link_flits x o)
  ]

  pub stands_for : network_of s ≡ empty (shape s)
  unfolding network_of net_shape
  stands_for = same_network _ _ record {
    buffer = λ x p v. ap (λ (c : ChannelState). c.buffer) (ins x p v);
    in_record = λ x p v. ap (λ (c : ChannelState). c.state) (ins x p v);
    last_out = λ x p v. ap (λ (c : ChannelState). c.last_out) (ins x p v);
    owed = λ x p v. ap (λ (c : ChannelState). c.owed) (ins x p v);
    holder = λ x o c. ap (λ (u : OutRecord). u.holder) (outs x o c);
    credits = λ x o c. ap (λ (u : OutRecord). u.credits) (outs x o c);
    out = outs_none;
    credit_list = link_credits;
    injected = λ x k. ap (λ (q : QueueState). q.injected) (queues x k);
    unfed = λ x k. ap (λ (q : QueueState). drop q.fed q.injected) (queues x k);
  }

  module _ (radices : AreRadices mesh) (classes : AreChannels channels) (least_depth : 1 ≤ depth)
      (most_depth : depth ≤ 16) (all_owned : own ≡ sole) (all_nodes : length nodes ≡ node_count mesh) where
    room_is : (n k room : ℕ) → k < n → (get_or (replicate n (empty_link room)) k blank_link).room ≡ room
    room_is zero k room within = absurd (omega arith)
    room_is (suc n) zero room within = refl
    room_is (suc n) (suc k) room within = room_is n k room (omega arith)

    framed : IsFramed s
    framed = record {
      radices = radices;
      classes = classes;
      least_depth = least_depth;
      most_depth = most_depth;
      all_nodes = all_nodes;
      all_links = rw no_links (length-replicate (link_count mesh) (empty_link (sum channels * depth)));
      each_node =
          λ x within. subst (λ (n : Node). IsNodeOf mesh channels depth x n) (sym (all x))
          (fresh_is mesh channels depth x);
      rooms = λ k within.
          let count : length links ≡ link_count mesh =
          rw no_links (length-replicate (link_count mesh) (empty_link (sum channels * depth))) in
          rw (no_links, room_is (link_count mesh) k (sum channels * depth) (omega arith)) (omega arith);
    }

    pub fresh_net : IsNet s
    fresh_net =
        let shaped = framed_mesh s framed in
        let back = sym stands_for in
        record {
          framed = framed;
          all_owned = all_owned;
          sound = subst (λ (n : Network). Sound (shape s) n) back (empty_sound (shape s));
          cut = subst (λ (n : Network). LanesCut (shape s) n) back (empty_cut (shape s) shaped);
          packets = subst (λ (n : Network). PacketsHold (shape s) n) back (empty_packets (shape s) shaped);
          others = subst (λ (n : Network). OthersIdle (shape s) n) back (empty_others (shape s));
          closed = subst (λ (n : Network). OnesClosed (shape s) n) back (empty_closed (shape s));
        }

-- the same of any network that is fresh
module _ (mesh channels : List ℕ) (depth : ℕ) (names : List (List ℕ)) (t : NetState)
    (fresh : IsFresh mesh channels depth names t) where
  nodes_of : AreFresh t.mesh t.channels t.depth t.nodes
  nodes_of = rw (fresh.same_mesh, fresh.same_channels, fresh.same_depth) fresh.nodes

  links_of : t.links ≡ replicate (link_count t.mesh) (empty_link (sum t.channels * t.depth))
  links_of =
      fresh.links ∙ (λ i. replicate (link_count (sym fresh.same_mesh i))
      (empty_link (sum (sym fresh.same_channels i) * sym fresh.same_depth i)))

  pub fresh_stands : network_of t ≡ empty (shape t)
  fresh_stands = stands_for t.mesh t.channels t.depth t.names t.nodes t.links t.own nodes_of links_of

  pub fresh_holds : AreRadices mesh → AreChannels channels → 1 ≤ depth → depth ≤ 16 → IsNet t
  fresh_holds radices classes some few =
      let own_radices : AreRadices t.mesh = rw fresh.same_mesh radices in
      let own_classes : AreChannels t.channels = rw fresh.same_channels classes in
      let own_depth : 1 ≤ t.depth = rw fresh.same_depth some in
      let own_few : t.depth ≤ 16 = rw fresh.same_depth few in
      let count : length t.nodes ≡ node_count t.mesh = rw fresh.same_mesh fresh.all_nodes in
      fresh_net t.mesh t.channels t.depth t.names t.nodes t.links t.own nodes_of links_of
      own_radices own_classes own_depth own_few fresh.all_owned count

-- lists of one length whose items are given by their places
same_items : {A : Type 0} (f : ℕ → A) (xs ys : List A) → length xs ≡ length ys → ((i : ℕ) → get_or xs i (f i) ≡ f i)
    → ((i : ℕ) → get_or ys i (f i) ≡ f i) → xs ≡ ys
same_items {A} f [] [] even all each = refl
same_items {A} f [] (y ∷ ys) even all each = absurd (omega arith)
same_items {A} f (x ∷ xs) [] even all each = absurd (omega arith)
same_items {A} f (x ∷ xs) (y ∷ ys) even all each =
    let rest : xs ≡ ys =
    same_items (λ (i : ℕ). f (suc i)) xs ys (omega arith) (λ i. all (suc i)) (λ i. each (suc i)) in
    let first : x ≡ y = all zero ∙ sym (each zero) in
    cc

pub fresh_one : (mesh channels : List ℕ) (depth : ℕ) (names : List (List ℕ)) → IsOneNetwork mesh channels depth names
fresh_one mesh channels depth names one other a b =
    let even : length one.nodes ≡ length other.nodes = a.all_nodes ∙ sym b.all_nodes in
    let nodes : one.nodes ≡ other.nodes =
    same_items (fresh_node mesh channels depth) one.nodes other.nodes even a.nodes b.nodes in
    λ t. net_state ((a.same_mesh ∙ sym b.same_mesh) t) ((a.same_channels ∙ sym b.same_channels) t)
    ((a.same_depth ∙ sym b.same_depth) t) ((a.same_names ∙ sym b.same_names) t) (nodes t)
    ((a.links ∙ sym b.links) t) ((a.all_owned ∙ sym b.all_owned) t)

-- a sound network has all that a move needs
pub workable : (s : NetState) → IsNet s → IsWorkable s
workable s net =
    record { framed = net.framed; works = sound_works (shape s) (framed_mesh s net.framed) (network_of s) net.sound }
