-- A node feeds just where the theory enables Feed, and that makes of the network what Feed does.
use Rattle.std.proofs.Common.{◌≡◌, ℕ, ◌+◌, ◌*◌, ◌<◌, ◌==◌, Bool, true, false, if◌then◌else◌, inl, inr, List, [], ◌∷◌}
use Rattle.std.proofs.Common.{◌++◌, length, drop, sum, Ok, Option, Some, None, refl, arith, ap, sym, subst, ◌∙◌}
use Rattle.std.specs.Prelude.{All, option_map, slice_set}
use Rattle.std.proofs.Math.ListN.{length-set}
use Rattle.std.proofs.lemmas.List.Elements.{All-head}
use Rattle.worm_flit.specs.declared.Flit.{Flit}
use Rattle.worm_flit.specs.Stamps.{with_channel}
use Rattle.worm_flit.specs.Channels.{first_channel}
use Rattle.worm_router.specs.Router.{ChannelState, terminal, input_at, put_in}
use Rattle.worm_term.specs.Queue.{waiting, one_fed}
use Rattle.worm_term.specs.Source.{front_of}
use Rattle.worm_theory.specs.Network.{put2, put3}
use Rattle.worm_theory.specs.Steps.{Feed, IsThere, Enabled, after, fed}
use Rattle.worm_region.specs.Resting.{nth_node}
use Rattle.worm_region.specs.Shape.{net_shape}
use Rattle.worm_node.specs.declared.node.Node.{Node}
use Rattle.worm_region.specs.State.{NetState, IsFramed, IsNodeOf, IsNetPlace, shape, network_of, node_at, router_at}
use Rattle.worm_region.specs.State.{source_at, with_node, output_of, queue_of}
use Rattle.worm_region.specs.Workable.{IsWorkableBy, IsBound}
use Rattle.worm_region.specs.Replies.{Replies}
use Rattle.worm_region.specs.Answers.{moved_of}
use Rattle.worm_node.specs.Node.{FrontFits, has_room, can_enter, fed_node}
use Rattle.worm_region.specs.Moves.{done_step}
use Rattle.worm_region.proofs.NodeWritten.{put2_same, put3_same, node_bridge, itself3, input_of-put, input_of-there}
use Rattle.worm_region.proofs.NodeWritten.{below_cases}
use Rattle.worm_region.proofs.AsListed.{buffer_there}
use Rattle.worm_region.proofs.FrameKept.{is_nth, step_made, framed_mesh, node_framed}
use Rattle.worm_region.proofs.ListFronts.{next_of, end_of}
use Rattle.worm_region.proofs.Sources.{queue_after, fed_source, within_fed}
use Rattle.worm_mesh.specs.Address.{node_count}

-- the node after a feed
module _ (s : NetState) (x k : ℕ) (f : Flit) (framed : IsFramed s) (x_in : x < length s.nodes)
    (k_in : k < length s.channels) (next : waiting (queue_of s x k) ≡ Some f) where
  abbrev vc : ℕ
  vc = first_channel (source_at s x).channels k

  abbrev port : ℕ
  port = terminal (router_at s x)

  abbrev flit : Flit
  flit = with_channel f vc

  abbrev new : Node
  new = fed_node (node_at s x) k (Some flit)

  queue_in : k < length (source_at s x).queues
  queue_in =
      let node = framed.each_node x x_in in
      let all = node.source_holds.all_queues in
      let same = ap (λ (cs : List ℕ). length cs) node.source_channels in
      omega arith

  pub new_node : IsNetPlace s x port vc → IsNodeOf s.mesh s.channels s.depth x new
  new_node place =
      let old = framed.each_node x x_in in
      record {
        same_mesh = old.same_mesh;
        same_node = old.same_node;
        same_channels = old.same_channels;
        same_depth = old.same_depth;
        all_inputs = rw length-set old.all_inputs;
        all_outputs = old.all_outputs;
        source_node = old.source_node;
        source_nodes = old.source_nodes;
        source_channels = old.source_channels;
        source_holds = fed_source (source_at s x) k old.source_holds queue_in;
        fed_within = within_fed (source_at s x) k f queue_in next old.fed_within;
        sink_node = old.sink_node;
      }

  pub feed_bridge : IsNetPlace s x port vc
      → network_of (with_node s x new) ≡ record (network_of s) {
        buffer =
            put3 (network_of s).buffer x (2 * length s.mesh) (first_channel s.channels k)
            ((network_of s).buffer x (2 * length s.mesh) (first_channel s.channels k) ++
            with_channel f (first_channel s.channels k) ∷ []);
        unfed = put2 (network_of s).unfed x k (drop ((queue_of s x k).fed + 1) (queue_of s x k).injected);
      }
  unfolding network_of
  feed_bridge place =
      let N = network_of s in
      let node = framed.each_node x x_in in
      let r = router_at s x in
      let c = input_at r port vc in
      let q = queue_of s x k in
      let there = input_of-there r port vc place.place.channel_in in
      let state = put3_same N.in_record x port vc c.state (ap (λ (a : ChannelState). a.state) (sym there)) in
      let last_out = put3_same N.last_out x port vc c.last_out (ap (λ (a : ChannelState). a.last_out) (sym there)) in
      let owed = put3_same N.owed x port vc c.owed (ap (λ (a : ChannelState). a.owed) (sym there)) in
      let buffer : c.buffer ≡ N.buffer x port vc = ap (λ (a : ChannelState). a.buffer) (sym there) in
      let holder = put3_same N.holder x 0 0 (output_of r 0 0).holder refl in
      let credits = put3_same N.credits x 0 0 (output_of r 0 0).credits refl in
      let itself : (2 * length s.mesh == 2 * length s.mesh) ≡ true = grind arith in
      let out = put2_same N.out x (2 * length s.mesh) (node_at s x).sink.delivered (rw itself refl) in
      let injected = put2_same N.injected x k q.injected refl in
      let same_vc : vc ≡ first_channel s.channels k = ap (λ (cs : List ℕ). first_channel cs k) node.source_channels in
      let same_port : port ≡ 2 * length s.mesh = ap (λ (m : List ℕ). 2 * length m) node.same_mesh in
      let same : record N {
        buffer = put3 N.buffer x port vc (c.buffer ++ flit ∷ []);
        in_record = put3 N.in_record x port vc c.state;
        last_out = put3 N.last_out x port vc c.last_out;
        owed = put3 N.owed x port vc c.owed;
        holder = put3 N.holder x 0 0 (output_of r 0 0).holder;
        credits = put3 N.credits x 0 0 (output_of r 0 0).credits;
        out = put2 N.out x (2 * length s.mesh) (node_at s x).sink.delivered;
        injected = put2 N.injected x k q.injected;
        unfed = put2 N.unfed x k (drop (q.fed + 1) q.injected);
      } ≡ record N {
        buffer = put3 N.buffer x port vc (N.buffer x port vc ++ flit ∷ []);
        unfed = put2 N.unfed x k (drop (q.fed + 1) q.injected);
      }
      = λ t. record N {
        buffer = put3 N.buffer x port vc (buffer t ++ flit ∷ []);
        in_record = state t;
        last_out = last_out t;
        owed = owed t;
        holder = holder t;
        credits = credits t;
        out = out t;
        injected = injected t;
        unfed = put2 N.unfed x k (drop (q.fed + 1) q.injected);
      } in
      let moved : record N {
        buffer = put3 N.buffer x port vc (N.buffer x port vc ++ flit ∷ []);
        unfed = put2 N.unfed x k (drop (q.fed + 1) q.injected);
      }
      ≡ record N {
        buffer =
            put3 N.buffer x (2 * length s.mesh) (first_channel s.channels k)
            (N.buffer x (2 * length s.mesh) (first_channel s.channels k) ++
            with_channel f (first_channel s.channels k) ∷ []);
        unfed = put2 N.unfed x k (drop (q.fed + 1) q.injected);
      }
      = λ t. record N {
        buffer =
            put3 N.buffer x (same_port t) (same_vc t)
            (N.buffer x (same_port t) (same_vc t) ++ with_channel f (same_vc t) ∷ []);
        unfed = put2 N.unfed x k (drop (q.fed + 1) q.injected);
      } in
      node_bridge s x port vc 0 0 k new (put_in c flit) (output_of r 0 0) (one_fed q) x_in
      (input_of-put r port vc (put_in c flit) place.place node.all_inputs)
      (itself3 (output_of r) 0 0)
      (queue_after (source_at s x) k queue_in)
      ∙ (same ∙ moved)

-- what is fed next, from the source and from the theory
unfed_at : (s : NetState) (x k : ℕ) → (network_of s).unfed x k ≡ drop (queue_of s x k).fed (queue_of s x k).injected
unfolding network_of
unfed_at s x k = refl

module _ (s : NetState) (x k : ℕ) (f : Flit) {own : ℕ → Bool} (net : IsWorkableBy own s) (x_in : x < length s.nodes)
    (k_in : k < length s.channels) (next : waiting (queue_of s x k) ≡ Some f) where
  -- the next flit may enter the injection buffer
  feed_place : IsNetPlace s x (terminal (router_at s x)) (first_channel (source_at s x).channels k) ×
      (f.lane.dst < node_count (router_at s x).mesh)
  unfolding net_shape
  feed_place =
      let node = net.framed.each_node x x_in in
      let mesh = framed_mesh s net.framed in
      let first : first_channel s.channels k < sum s.channels = (mesh.first_owned k k_in).0 in
      let unfed = unfed_at s x k ∙ next_of (queue_of s x k).injected (queue_of s x k).fed f next in
      let all = subst (λ (fs : List Flit). All (IsBound (shape s)) fs) unfed (net.works.unfed x k) in
      let from = All-head (IsBound (shape s)) f (drop ((queue_of s x k).fed + 1) (queue_of s x k).injected) all in
      let same_vc : first_channel (source_at s x).channels k ≡ first_channel s.channels k =
      ap (λ (cs : List ℕ). first_channel cs k) node.source_channels in (
        record {
          node_in = x_in;
          place = record { port_in = omega arith; channel_in = rw (same_vc, node.same_channels) first };
        },
        rw node.same_mesh from,
      )

  feed_done : has_room (router_at s x) (terminal (router_at s x))
      (with_channel f (first_channel (source_at s x).channels k)) ≡ true
      → Enabled (shape s) (network_of s) (Feed x k)
      × (network_of (with_node s x (fed_node (node_at s x) k
      (Some (with_channel f (first_channel (source_at s x).channels k))))) ≡ after (shape s) (network_of s) (Feed x k))
      × IsFramed (with_node s x (fed_node (node_at s x) k
      (Some (with_channel f (first_channel (source_at s x).channels k)))))
  unfolding net_shape
  feed_done room =
      let N = network_of s in
      let node = net.framed.each_node x x_in in
      let r = router_at s x in
      let vc = first_channel (source_at s x).channels k in
      let rest = drop ((queue_of s x k).fed + 1) (queue_of s x k).injected in
      let place = feed_place in
      let unfed : N.unfed x k ≡ f ∷ rest =
      unfed_at s x k ∙ next_of (queue_of s x k).injected (queue_of s x k).fed f next in
      let some : 0 < length (N.unfed x k) = rw unfed (omega arith) in
      let fits : length (input_at r (terminal r) vc).buffer < s.depth =
      elim (below_cases (length (input_at r (terminal r) vc).buffer) r.depth) [
        | inl h ↦ let lt = h.1 in let d = node.same_depth in omega arith
        | inr h ↦ let no = h.0 in absurd (cc)
      ] in
      let same_vc : vc ≡ first_channel s.channels k = ap (λ (cs : List ℕ). first_channel cs k) node.source_channels in
      let same_port : terminal r ≡ 2 * length s.mesh = ap (λ (m : List ℕ). 2 * length m) node.same_mesh in
      let here : length (N.buffer x (terminal r) vc) < s.depth = rw (buffer_there s x (terminal r) vc place.0) fits in
      let theirs : length (N.buffer x (2 * length s.mesh) (first_channel s.channels k)) < s.depth =
      subst (λ (v : ℕ). length (N.buffer x (2 * length s.mesh) v) < s.depth) same_vc
      (subst (λ (p : ℕ). length (N.buffer x p vc) < s.depth) same_port here) in
      let to_after : fed (shape s) N x k (f ∷ rest) ≡ after (shape s) N (Feed x k) =
      ap (λ (fs : List Flit). fed (shape s) N x k fs) (sym unfed) in (
        (some, theirs),
        feed_bridge s x k f net.framed x_in k_in next place.0 ∙ to_after,
        node_framed s x _ net.framed x_in (new_node s x k f net.framed x_in k_in next place.0),
      )

  feed_full : has_room (router_at s x) (terminal (router_at s x))
      (with_channel f (first_channel (source_at s x).channels k)) ≡ false
      → Enabled (shape s) (network_of s) (Feed x k) → ⊥
  unfolding net_shape
  feed_full room h =
      let N = network_of s in
      let node = net.framed.each_node x x_in in
      let r = router_at s x in
      let vc = first_channel (source_at s x).channels k in
      let place = feed_place in
      let same_vc : vc ≡ first_channel s.channels k = ap (λ (cs : List ℕ). first_channel cs k) node.source_channels in
      let same_port : terminal r ≡ 2 * length s.mesh = ap (λ (m : List ℕ). 2 * length m) node.same_mesh in
      let theirs : length (N.buffer x (2 * length s.mesh) (first_channel s.channels k)) < s.depth = h.1 in
      let here : length (N.buffer x (terminal r) vc) < s.depth =
      subst (λ (v : ℕ). length (N.buffer x (terminal r) v) < s.depth) (sym same_vc)
      (subst (λ (p : ℕ). length (N.buffer x p (first_channel s.channels k)) < s.depth) (sym same_port) theirs) in
      let fits : length (input_at r (terminal r) vc).buffer < s.depth =
      rw (buffer_there s x (terminal r) vc place.0) at here in
      elim (below_cases (length (input_at r (terminal r) vc).buffer) r.depth) [
        | inl lt ↦ let no = lt.0 in absurd (cc)
        | inr le ↦ let past = le.1 in let d = node.same_depth in absurd (omega arith)
      ]

feed_none : (s : NetState) (x k : ℕ) → waiting (queue_of s x k) ≡ None → Enabled (shape s) (network_of s) (Feed x k) →
    ⊥
feed_none s x k none h =
    let empty : (network_of s).unfed x k ≡ [] =
    unfed_at s x k ∙ end_of (queue_of s x k).injected (queue_of s x k).fed none in
    let some : 0 < length ((network_of s).unfed x k) = h.0 in
    absurd (omega (arith, ap (λ (fs : List Flit). length fs) empty))

Outcome : (ℕ → Bool) → NetState → ℕ → ℕ → Option Flit → Bool → Type 0
Outcome own s x k o b =
    IsWorkableBy own (if b then with_node s x (fed_node (node_at s x) k o) else s) ×
    Replies s (Feed x k) (Ok (moved_of b)) (if b then with_node s x (fed_node (node_at s x) k o) else s)

feed_at : (s : NetState) (x k : ℕ) → {own : ℕ → Bool} → IsWorkableBy own s → x < length s.nodes →
    k < length s.channels → IsThere (shape s) (Feed x k) → (o : Option Flit) (b : Bool)
    → waiting (queue_of s x k) ≡ o →
    can_enter (router_at s x) (terminal (router_at s x))
    (option_map (λ f. with_channel f (first_channel (source_at s x).channels k)) o) ≡ b
    → with_node s x (fed_node (node_at s x) k
    (option_map (λ f. with_channel f (first_channel (source_at s x).channels k)) o)) ≡ done_step s (Feed x k)
    → Outcome own s x k (option_map (λ f. with_channel f (first_channel (source_at s x).channels k)) o) b
unfolding Outcome
feed_at s x k net x_in k_in there None true next can same = absurd (cc)
feed_at s x k net x_in k_in there None false next can same = (net, (there, feed_none s x k next, refl, refl))
feed_at s x k net x_in k_in there (Some f) true next can same =
    let step = feed_done s x k f net x_in k_in next can in
    let new =
    with_node s x (fed_node (node_at s x) k (Some (with_channel f (first_channel (source_at s x).channels k)))) in
    step_made s new.nodes new.links (Feed x k) net there (λ no. no) step same
feed_at s x k net x_in k_in there (Some f) false next can same =
    (net, (there, feed_full s x k f net x_in k_in next can, refl, refl))

pub feed_answers : (s : NetState) (x k : ℕ) → {own : ℕ → Bool} → IsWorkableBy own s → IsThere (shape s) (Feed x k) →
    (done : Bool) → done ≡ can_enter (router_at s x) (terminal (router_at s x)) (front_of (source_at s x) k)
    → IsWorkableBy own (if done then with_node s x (fed_node (node_at s x) k (front_of (source_at s x) k)) else s)
    × Replies s (Feed x k) (Ok (moved_of done))
    (if done then with_node s x (fed_node (node_at s x) k (front_of (source_at s x) k)) else s)
unfolding net_shape Outcome
feed_answers s x k net there done e =
    let all = net.framed.all_nodes in
    let node_in = there.0 in
    rw e (feed_at s x k net (omega arith) there.1 there (waiting (queue_of s x k))
    (can_enter (router_at s x) (terminal (router_at s x)) (front_of (source_at s x) k)) refl refl refl)

fits_by : (s : NetState) (x k : ℕ) → {own : ℕ → Bool} → IsWorkableBy own s → x < length s.nodes →
    k < length s.channels → (o : Option Flit) → waiting (queue_of s x k) ≡ o
    → FrontFits (router_at s x) (terminal (router_at s x))
    (option_map (λ f. with_channel f (first_channel (source_at s x).channels k)) o)
fits_by s x k net x_in k_in None next = tt
fits_by s x k net x_in k_in (Some f) next =
    let place = feed_place s x k f net x_in k_in next in (place.0.place, place.1)

pub feed_fits : (s : NetState) (x k : ℕ) → {own : ℕ → Bool} → IsWorkableBy own s → IsThere (shape s) (Feed x k) →
    FrontFits (router_at s x) (terminal (router_at s x)) (front_of (source_at s x) k)
unfolding net_shape
feed_fits s x k net there =
    let all = net.framed.all_nodes in
    let node_in = there.0 in
    fits_by s x k net (omega arith) there.1 (waiting (queue_of s x k)) refl

-- the same where a node is read and written within the list
pub nth_fits : (s : NetState) (x k : ℕ) → {own : ℕ → Bool} → IsWorkableBy own s → IsThere (shape s) (Feed x k) →
    FrontFits (nth_node s.nodes x).router (terminal (nth_node s.nodes x).router)
    (front_of (nth_node s.nodes x).source k)
unfolding net_shape
nth_fits s x k net there =
    subst (λ (n : Node). FrontFits n.router (terminal n.router) (front_of n.source k))
    (sym (is_nth s x net.framed there.0)) (feed_fits s x k net there)

fed_list : (s : NetState) (x k : ℕ) → Bool → Node → List Node
fed_list s x k done n = if done then slice_set s.nodes x (fed_node n k (front_of n.source k)) else s.nodes

list_answers : (s : NetState) (x k : ℕ) → {own : ℕ → Bool} → IsWorkableBy own s → IsThere (shape s) (Feed x k) →
    (done : Bool) → done ≡ can_enter (router_at s x) (terminal (router_at s x)) (front_of (source_at s x) k)
    → IsWorkableBy own (record s { nodes = fed_list s x k done (node_at s x) })
    × Replies s (Feed x k) (Ok (moved_of done)) (record s { nodes = fed_list s x k done (node_at s x) })
unfolding fed_list
list_answers s x k net there true e = feed_answers s x k net there true e
list_answers s x k net there false e = feed_answers s x k net there false e

pub nth_answers : (s : NetState) (x k : ℕ) → {own : ℕ → Bool} → IsWorkableBy own s → IsThere (shape s) (Feed x k) →
    (done : Bool) (nodes : List Node)
    → done ≡ can_enter (nth_node s.nodes x).router (terminal (nth_node s.nodes x).router)
    (front_of (nth_node s.nodes x).source k)
    → nodes ≡ (if done then slice_set s.nodes x (fed_node (nth_node s.nodes x) k
    (front_of (nth_node s.nodes x).source k)) else s.nodes)
    → IsWorkableBy own (record s { nodes = nodes })
    × Replies s (Feed x k) (Ok (moved_of done)) (record s { nodes = nodes })
unfolding net_shape fed_list
nth_answers s x k {own} net there done nodes e after =
    let same = is_nth s x net.framed there.0 in
    let enters = subst (λ (n : Node). done ≡ can_enter n.router (terminal n.router) (front_of n.source k)) same e in
    subst (λ (ns : List Node). IsWorkableBy own (record s { nodes = ns })
    × Replies s (Feed x k) (Ok (moved_of done)) (record s { nodes = ns }))
    (sym (after ∙ ap (fed_list s x k done) same)) (list_answers s x k net there done enters)
