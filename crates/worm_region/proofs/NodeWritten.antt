-- A node that is written is a change at one place of each of the theory's functions, and of no other.
use Rattle.std.proofs.Common.{◌≡◌, ℕ, ◌*◌, ◌<◌, ◌≤◌, Bool, true, false, cond, nat_lt, ◌==◌, ◌⊎◌, inl, inr, List, length}
use Rattle.std.proofs.Common.{drop, refl, arith, ap, sym, ◌∙◌}
use Rattle.std.proofs.lemmas.List.{get_or-set_other}
use Rattle.std.proofs.lemmas.Nat.{same_from_place}
use Rattle.worm_flit.specs.declared.Flit.{Flit}
use Rattle.worm_records.specs.declared.OutRecord.{OutRecord}
use Rattle.worm_term.specs.Source.{queue_at}
use Rattle.worm_router.specs.Router.{RouterState, ChannelState, IsPlace, places, width, line, fresh_channel}
use Rattle.worm_router.specs.Router.{free_output, input_at, output_at, with_input, with_output}
use Rattle.worm_router.proofs.Laws.{input_at-same, output_at-same}
use Rattle.worm_term.specs.Queue.{QueueState}
use Rattle.worm_theory.specs.Network.{same, put2, put3}
use Rattle.worm_theory.proofs.Places.{bool_cases, number_cases, place_cases, place3_cases, same-false}
use Rattle.worm_theory.proofs.Bridge.{get_or-set, same_network}
use Rattle.worm_node.specs.declared.node.Node.{Node}
use Rattle.worm_region.specs.State.{NetState, network_of, node_at, router_at, source_at, sink_at, with_node}
use Rattle.worm_node.specs.NewNodes.{fresh_node}
use Rattle.worm_region.specs.State.{with_router, with_source, input_of, output_of, link_of}
use Rattle.std.proofs.lemmas.List.{set-get_or}

pub below_cases : (a b : ℕ) → ((nat_lt a b ≡ true) × (a < b)) ⊎ ((nat_lt a b ≡ false) × (b ≤ a))
below_cases a b = grind arith

pub cond_ap : {A B : Type 0} (g : A → B) (b : Bool) (x y : A) → g (cond b x y) ≡ cond b (g x) (g y)
cond_ap g true x y = refl
cond_ap g false x y = refl

-- a change to what was there is none
pub put3_same : {A : Type 0} (f : ℕ → ℕ → ℕ → A) (a b c : ℕ) (v : A) → v ≡ f a b c → put3 f a b c v ≡ f
put3_same {A} f a b c v e =
    let at : (i j k : ℕ) → put3 f a b c v i j k ≡ f i j k =
    λ i j k. elim (place3_cases i j k a b c) [
      | inl here ↦ rw here.0 (rw (here.1, here.2, here.3) e)
      | inr away ↦ rw away.0 refl
    ] in
    λ t. λ i j k. at i j k t

pub put2_same : {A : Type 0} (f : ℕ → ℕ → A) (a b : ℕ) (v : A) → v ≡ f a b → put2 f a b v ≡ f
put2_same {A} f a b v e =
    let at : (i j : ℕ) → put2 f a b v i j ≡ f i j =
    λ i j. elim (place_cases i j a b) [
      | inl here ↦ rw here.0 (rw (here.1, here.2) e)
      | inr away ↦ rw away.0 refl
    ] in
    λ t. λ i j. at i j t

-- a router's channels after a write of one

pub input_of-put : (r : RouterState) (p v : ℕ) (c : ChannelState) → IsPlace r p v → length r.inputs ≡ places r
    → (q w : ℕ) → input_of (with_input r p v c) q w ≡ cond (same q w p v) c (input_of r q w)
input_of-put r p v c place all q w =
    elim (below_cases w (width r)) [
      | inl within ↦ elim (place_cases q w p v) [
        | inl here ↦ rw (within.0, here.0) (rw (here.1, here.2) (input_at-same r p v c place all))
        | inr away ↦ rw (within.0, away.0) (get_or-set_other r.inputs (line r p v) (line r q w) c
            (fresh_channel r.depth)
            (λ e. let both = same_from_place q w p v (width r) within.1 place.channel_in e in away.1 both.0 both.1))
      ]
      | inr past ↦
          let in_place = place.channel_in in
          let bound = past.1 in
          let away : same q w p v ≡ false = same-false q w p v (λ _ e. let no : w ≡ v = e in omega arith) in
          rw (past.0, away) refl
    ]

pub output_of-put : (r : RouterState) (p v : ℕ) (u : OutRecord) → IsPlace r p v → length r.outputs ≡ places r
    → (q w : ℕ) → output_of (with_output r p v u) q w ≡ cond (same q w p v) u (output_of r q w)
output_of-put r p v u place all q w =
    elim (below_cases w (width r)) [
      | inl within ↦ elim (place_cases q w p v) [
        | inl here ↦ rw (within.0, here.0) (rw (here.1, here.2) (output_at-same r p v u place all))
        | inr away ↦ rw (within.0, away.0) (get_or-set_other r.outputs (line r p v) (line r q w) u (free_output r.depth)
            (λ e. let both = same_from_place q w p v (width r) within.1 place.channel_in e in away.1 both.0 both.1))
      ]
      | inr past ↦
          let in_place = place.channel_in in
          let bound = past.1 in
          let away : same q w p v ≡ false = same-false q w p v (λ _ e. let no : w ≡ v = e in omega arith) in
          rw (past.0, away) refl
    ]

-- a place that is there is read from the list
pub input_of-there : (r : RouterState) (p v : ℕ) → v < width r → input_of r p v ≡ input_at r p v
input_of-there r p v within = elim (below_cases v (width r)) [
  | inl h ↦ rw h.0 refl
  | inr h ↦ let bound = h.1 in absurd (omega arith)
]

pub output_of-there : (r : RouterState) (p v : ℕ) → v < width r → output_of r p v ≡ output_at r p v
output_of-there r p v within = elim (below_cases v (width r)) [
  | inl h ↦ rw h.0 refl
  | inr h ↦ let bound = h.1 in absurd (omega arith)
]

-- the nodes after a write of one

pub node_at-put : (s : NetState) (x : ℕ) (n : Node) (y : ℕ) → x < length s.nodes
    → node_at (with_node s x n) y ≡ cond (y == x) n (node_at s y)
node_at-put s x n y there = get_or-set s.nodes x y n (fresh_node s.mesh s.channels s.depth y) there

-- whatever is read of nodes by two numbers, after a write that changes one of its places
pub read3-put : {A : Type 0} (g : Node → ℕ → ℕ → A) (s : NetState) (x p v : ℕ) (n : Node) (c : A) → x < length s.nodes
    → ((q w : ℕ) → g n q w ≡ cond (same q w p v) c (g (node_at s x) q w))
    → (y q w : ℕ) → g (node_at (with_node s x n) y) q w ≡ put3 (λ y q w. g (node_at s y) q w) x p v c y q w
read3-put {A} g s x p v n c there new y q w =
    elim (number_cases y x) [
      | inl here ↦
          let at : node_at (with_node s x n) y ≡ n = rw (node_at-put s x n y there, here.0) refl in
          let same_place : put3 (λ y q w. g (node_at s y) q w) x p v c x q w
          ≡ put3 (λ y q w. g (node_at s y) q w) x p v c y q w =
          ap (λ (z : ℕ). put3 (λ y q w. g (node_at s y) q w) x p v c z q w) (sym here.1) in
          let itself : (x == x) ≡ true = grind arith in
          let put : cond (same q w p v) c (g (node_at s x) q w) ≡ put3 (λ y q w. g (node_at s y) q w) x p v c x q w =
          rw itself refl in
          ap (λ (m : Node). g m q w) at ∙ (new q w ∙ (put ∙ same_place))
      | inr away ↦
          let at : node_at (with_node s x n) y ≡ node_at s y = rw (node_at-put s x n y there, away.0) refl in
          let put : g (node_at s y) q w ≡ put3 (λ y q w. g (node_at s y) q w) x p v c y q w = rw away.0 refl in
          ap (λ (m : Node). g m q w) at ∙ put
    ]

-- the same by one number
pub read2-put : {A : Type 0} (g : Node → ℕ → A) (s : NetState) (x j : ℕ) (n : Node) (c : A) → x < length s.nodes
    → ((k : ℕ) → g n k ≡ cond (k == j) c (g (node_at s x) k))
    → (y k : ℕ) → g (node_at (with_node s x n) y) k ≡ put2 (λ y k. g (node_at s y) k) x j c y k
read2-put {A} g s x j n c there new y k =
    elim (number_cases y x) [
      | inl here ↦
          let at : node_at (with_node s x n) y ≡ n = rw (node_at-put s x n y there, here.0) refl in
          let same_place : put2 (λ y k. g (node_at s y) k) x j c x k ≡ put2 (λ y k. g (node_at s y) k) x j c y k =
          ap (λ (z : ℕ). put2 (λ y k. g (node_at s y) k) x j c z k) (sym here.1) in
          let itself : (x == x) ≡ true = grind arith in
          let put : cond (k == j) c (g (node_at s x) k) ≡ put2 (λ y k. g (node_at s y) k) x j c x k = rw itself refl in
          ap (λ (m : Node). g m k) at ∙ (new k ∙ (put ∙ same_place))
      | inr away ↦
          let at : node_at (with_node s x n) y ≡ node_at s y = rw (node_at-put s x n y there, away.0) refl in
          let put : g (node_at s y) k ≡ put2 (λ y k. g (node_at s y) k) x j c y k = rw away.0 refl in
          ap (λ (m : Node). g m k) at ∙ put
    ]

-- a part of a router's input or output channel, or of a source's queue
input-put : {B : Type 0} (f : ChannelState → B) (s : NetState) (x p v : ℕ) (n : Node) (c : ChannelState)
    → x < length s.nodes
    → ((q w : ℕ) → input_of n.router q w ≡ cond (same q w p v) c (input_of (router_at s x) q w))
    → (y q w : ℕ) → f (input_of (router_at (with_node s x n) y) q w)
    ≡ put3 (λ y q w. f (input_of (router_at s y) q w)) x p v (f c) y q w
input-put {B} f s x p v n c there new =
    read3-put (λ m q w. f (input_of m.router q w)) s x p v n (f c) there
    (λ q w. ap f (new q w) ∙ cond_ap f (same q w p v) c (input_of (router_at s x) q w))

output-put : {B : Type 0} (f : OutRecord → B) (s : NetState) (x p v : ℕ) (n : Node) (c : OutRecord) → x < length s.nodes
    → ((q w : ℕ) → output_of n.router q w ≡ cond (same q w p v) c (output_of (router_at s x) q w))
    → (y q w : ℕ) → f (output_of (router_at (with_node s x n) y) q w)
    ≡ put3 (λ y q w. f (output_of (router_at s y) q w)) x p v (f c) y q w
output-put {B} f s x p v n c there new =
    read3-put (λ m q w. f (output_of m.router q w)) s x p v n (f c) there
    (λ q w. ap f (new q w) ∙ cond_ap f (same q w p v) c (output_of (router_at s x) q w))

queue-put : {B : Type 0} (f : QueueState → B) (s : NetState) (x j : ℕ) (n : Node) (c : QueueState) → x < length s.nodes
    → ((k : ℕ) → queue_at n.source k ≡ cond (k == j) c (queue_at (source_at s x) k))
    → (y k : ℕ) → f (queue_at (source_at (with_node s x n) y) k)
    ≡ put2 (λ y k. f (queue_at (source_at s y) k)) x j (f c) y k
queue-put {B} f s x j n c there new =
    read2-put (λ m k. f (queue_at m.source k)) s x j n (f c) there
    (λ k. ap f (new k) ∙ cond_ap f (k == j) c (queue_at (source_at s x) k))

-- what a write leaves of its node is as it was at each
pub node_kept : {B : Type 0} (f : Node → B) (s : NetState) (x : ℕ) (n : Node) → x < length s.nodes
    → f n ≡ f (node_at s x) → (y : ℕ) → f (node_at (with_node s x n) y) ≡ f (node_at s y)
node_kept {B} f s x n there e y =
    elim (number_cases y x) [
      | inl here ↦
          let at : node_at (with_node s x n) y ≡ n = rw (node_at-put s x n y there, here.0) refl in
          ap f at ∙ (e ∙ ap (λ (z : ℕ). f (node_at s z)) (sym here.1))
      | inr away ↦
          let at : node_at (with_node s x n) y ≡ node_at s y = rw (node_at-put s x n y there, away.0) refl in
          ap f at
    ]

-- the sink's list is the terminal's
sink-put : (s : NetState) (x : ℕ) (n : Node) → x < length s.nodes → (y q : ℕ)
    → cond (q == 2 * length s.mesh) (sink_at (with_node s x n) y).delivered (link_of s y q).flits
    ≡ put2 (λ y q. cond (q == 2 * length s.mesh) (sink_at s y).delivered (link_of s y q).flits) x
    (2 * length s.mesh) n.sink.delivered y q
sink-put s x n there y q =
    elim (number_cases y x) [
      | inl here ↦
          let at : node_at (with_node s x n) y ≡ n = rw (node_at-put s x n y there, here.0) refl in
          elim (bool_cases (q == 2 * length s.mesh)) [
            | inl port ↦ rw (here.0, port) (ap (λ (m : Node). m.sink.delivered) at)
            | inr port ↦ rw (here.0, port) refl
          ]
      | inr away ↦
          let at : node_at (with_node s x n) y ≡ node_at s y = rw (node_at-put s x n y there, away.0) refl in
          rw away.0 (ap (λ (m : Node). cond (q == 2 * length s.mesh) m.sink.delivered (link_of s y q).flits) at)
    ]

-- For nodes: a node with one input channel, one output channel, one queue and its sink changed is a change
-- at one place of each function that reads nodes.
pub node_bridge : (s : NetState) (x p v o k j : ℕ) (n : Node) (c : ChannelState) (u : OutRecord) (a : QueueState)
    → x < length s.nodes
    → ((q w : ℕ) → input_of n.router q w ≡ cond (same q w p v) c (input_of (router_at s x) q w))
    → ((q w : ℕ) → output_of n.router q w ≡ cond (same q w o k) u (output_of (router_at s x) q w))
    → ((i : ℕ) → queue_at n.source i ≡ cond (i == j) a (queue_at (source_at s x) i))
    → network_of (with_node s x n) ≡ record (network_of s) {
      buffer = put3 (network_of s).buffer x p v c.buffer;
      in_record = put3 (network_of s).in_record x p v c.state;
      last_out = put3 (network_of s).last_out x p v c.last_out;
      owed = put3 (network_of s).owed x p v c.owed;
      holder = put3 (network_of s).holder x o k u.holder;
      credits = put3 (network_of s).credits x o k u.credits;
      out = put2 (network_of s).out x (2 * length s.mesh) n.sink.delivered;
      injected = put2 (network_of s).injected x j a.injected;
      unfed = put2 (network_of s).unfed x j (drop a.fed a.injected);
    }
unfolding network_of
node_bridge s x p v o k j n c u a there ins outs queues = same_network _ _ record {
  buffer = input-put (λ (a : ChannelState). a.buffer) s x p v n c there ins;
  in_record = input-put (λ (a : ChannelState). a.state) s x p v n c there ins;
  last_out = input-put (λ (a : ChannelState). a.last_out) s x p v n c there ins;
  owed = input-put (λ (a : ChannelState). a.owed) s x p v n c there ins;
  holder = output-put (λ (a : OutRecord). a.holder) s x o k n u there outs;
  credits = output-put (λ (a : OutRecord). a.credits) s x o k n u there outs;
  out = sink-put s x n there;
  credit_list = λ y q. refl;
  injected = queue-put (λ (a : QueueState). a.injected) s x j n a there queues;
  unfed = queue-put (λ (a : QueueState). drop a.fed a.injected) s x j n a there queues;
}

-- For routers: a router with one input channel and one output channel changed is a change at one place of
-- each of the six functions that read routers.
pub router_bridge : (s : NetState) (x p v o k : ℕ) (r : RouterState) (c : ChannelState) (u : OutRecord)
    → x < length s.nodes
    → ((q w : ℕ) → input_of r q w ≡ cond (same q w p v) c (input_of (router_at s x) q w))
    → ((q w : ℕ) → output_of r q w ≡ cond (same q w o k) u (output_of (router_at s x) q w))
    → network_of (with_router s x r) ≡ record (network_of s) {
      buffer = put3 (network_of s).buffer x p v c.buffer;
      in_record = put3 (network_of s).in_record x p v c.state;
      last_out = put3 (network_of s).last_out x p v c.last_out;
      owed = put3 (network_of s).owed x p v c.owed;
      holder = put3 (network_of s).holder x o k u.holder;
      credits = put3 (network_of s).credits x o k u.credits;
    }
unfolding network_of
router_bridge s x p v o k r c u there ins outs = same_network _ _ record {
  buffer = input-put (λ (a : ChannelState). a.buffer) s x p v (record (node_at s x) { router = r }) c there ins;
  in_record = input-put (λ (a : ChannelState). a.state) s x p v (record (node_at s x) { router = r }) c there ins;
  last_out = input-put (λ (a : ChannelState). a.last_out) s x p v (record (node_at s x) { router = r }) c there ins;
  owed = input-put (λ (a : ChannelState). a.owed) s x p v (record (node_at s x) { router = r }) c there ins;
  holder = output-put (λ (a : OutRecord). a.holder) s x o k (record (node_at s x) { router = r }) u there outs;
  credits = output-put (λ (a : OutRecord). a.credits) s x o k (record (node_at s x) { router = r }) u there outs;
  out = λ y q. ap (λ (d : List Flit). cond (q == 2 * length s.mesh) d (link_of s y q).flits)
      (node_kept (λ (n : Node). n.sink.delivered) s x (record (node_at s x) { router = r }) there refl y);
  credit_list = λ y q. refl;
  injected = λ y j. node_kept (λ (n : Node). (queue_at n.source j).injected) s x
      (record (node_at s x) { router = r }) there refl y;
  unfed = λ y j. node_kept (λ (n : Node). drop (queue_at n.source j).fed (queue_at n.source j).injected) s x
      (record (node_at s x) { router = r }) there refl y;
}

-- the same where outputs stay
pub input_bridge : (s : NetState) (x p v : ℕ) (c : ChannelState) → x < length s.nodes → IsPlace (router_at s x) p v
    → length (router_at s x).inputs ≡ places (router_at s x)
    → network_of (with_router s x (with_input (router_at s x) p v c)) ≡ record (network_of s) {
      buffer = put3 (network_of s).buffer x p v c.buffer;
      in_record = put3 (network_of s).in_record x p v c.state;
      last_out = put3 (network_of s).last_out x p v c.last_out;
      owed = put3 (network_of s).owed x p v c.owed;
    }
unfolding network_of
input_bridge s x p v c there place all =
    let ins = input_of-put (router_at s x) p v c place all in
    let r : RouterState = with_input (router_at s x) p v c in
    same_network _ _ record {
      buffer = input-put (λ (a : ChannelState). a.buffer) s x p v (record (node_at s x) { router = r }) c there ins;
      in_record = input-put (λ (a : ChannelState). a.state) s x p v (record (node_at s x) { router = r }) c there ins;
      last_out = input-put (λ (a : ChannelState). a.last_out) s x p v (record (node_at s x) { router = r }) c there ins;
      owed = input-put (λ (a : ChannelState). a.owed) s x p v (record (node_at s x) { router = r }) c there ins;
      holder = λ y o k. node_kept (λ (n : Node). (output_of n.router o k).holder) s x
          (record (node_at s x) { router = r }) there refl y;
      credits = λ y o k. node_kept (λ (n : Node). (output_of n.router o k).credits) s x
          (record (node_at s x) { router = r }) there refl y;
      out = λ y q. ap (λ (d : List Flit). cond (q == 2 * length s.mesh) d (link_of s y q).flits)
          (node_kept (λ (n : Node). n.sink.delivered) s x (record (node_at s x) { router = r }) there refl y);
      credit_list = λ y q. refl;
      injected = λ y j. node_kept (λ (n : Node). (queue_at n.source j).injected) s x
          (record (node_at s x) { router = r }) there refl y;
      unfed = λ y j. node_kept (λ (n : Node). drop (queue_at n.source j).fed (queue_at n.source j).injected) s x
          (record (node_at s x) { router = r }) there refl y;
    }

-- a value written over itself
pub itself3 : {A : Type 0} (f : ℕ → ℕ → A) (p v q w : ℕ) → f q w ≡ cond (same q w p v) (f p v) (f q w)
itself3 {A} f p v q w = elim (place_cases q w p v) [
  | inl here ↦ rw here.0 (rw (here.1, here.2) refl)
  | inr away ↦ rw away.0 refl
]

pub itself2 : {A : Type 0} (f : ℕ → A) (j k : ℕ) → f k ≡ cond (k == j) (f j) (f k)
itself2 {A} f j k = elim (number_cases k j) [
  | inl here ↦ rw here.0 (ap f here.1)
  | inr away ↦ rw away.0 refl
]

-- a router with one output channel changed
pub output_bridge : (s : NetState) (x o k : ℕ) (u : OutRecord) → x < length s.nodes → IsPlace (router_at s x) o k
    → length (router_at s x).outputs ≡ places (router_at s x)
    → network_of (with_router s x (with_output (router_at s x) o k u)) ≡ record (network_of s) {
      holder = put3 (network_of s).holder x o k u.holder;
      credits = put3 (network_of s).credits x o k u.credits;
    }
unfolding network_of
output_bridge s x o k u there place all =
    let outs = output_of-put (router_at s x) o k u place all in
    let n : Node = record (node_at s x) { router = with_output (router_at s x) o k u } in
    same_network _ _ record {
      buffer = λ y p v. node_kept (λ (n : Node). (input_of n.router p v).buffer) s x n there refl y;
      in_record = λ y p v. node_kept (λ (n : Node). (input_of n.router p v).state) s x n there refl y;
      last_out = λ y p v. node_kept (λ (n : Node). (input_of n.router p v).last_out) s x n there refl y;
      owed = λ y p v. node_kept (λ (n : Node). (input_of n.router p v).owed) s x n there refl y;
      holder = output-put (λ (a : OutRecord). a.holder) s x o k n u there outs;
      credits = output-put (λ (a : OutRecord). a.credits) s x o k n u there outs;
      out = λ y q. ap (λ (d : List Flit). cond (q == 2 * length s.mesh) d (link_of s y q).flits)
          (node_kept (λ (n : Node). n.sink.delivered) s x n there refl y);
      credit_list = λ y q. refl;
      injected = λ y j. node_kept (λ (n : Node). (queue_at n.source j).injected) s x n there refl y;
      unfed = λ y j. node_kept (λ (n : Node). drop (queue_at n.source j).fed (queue_at n.source j).injected) s x n there
          refl y;
    }

-- a node written back as it was
pub with_router_same : (s : NetState) (x : ℕ) → x < length s.nodes → with_router s x (router_at s x) ≡ s
with_router_same s x there =
    ap (λ (nodes : List Node). record s { nodes = nodes })
    (set-get_or s.nodes x (fresh_node s.mesh s.channels s.depth x))

pub with_source_same : (s : NetState) (x : ℕ) → x < length s.nodes → with_source s x (source_at s x) ≡ s
with_source_same s x there =
    ap (λ (nodes : List Node). record s { nodes = nodes })
    (set-get_or s.nodes x (fresh_node s.mesh s.channels s.depth x))
