-- What a source has to feed, class by class.
use Rattle.std.proofs.Common.{◌≡◌, ℕ, ◌<◌, ◌≤◌, ◌∷◌, [], false, inl, inr, length, List, None, Some, Option, refl}
use Rattle.std.proofs.Common.{arith, ap, get_or, length-append, set, subst, sym, ◌∙◌}
use Rattle.std.specs.Prelude.{Result, is_some, option_map}
use Rattle.std.proofs.lemmas.Bool.{cases_eq, cases_lt}
use Rattle.std.proofs.lemmas.Bool.Decides.{nat_tests}
use Rattle.std.proofs.lemmas.Grind.{get_or-set_at}
use Rattle.std.proofs.lemmas.List.{get_or-set_other, get_or-set_same, get_or_past, set_past}
use Rattle.worm_flit.specs.declared.Flit.{Flit}
use Rattle.worm_flit.specs.Channels.{first_channel}
use Rattle.worm_flit.specs.Stamps.{with_channel}
use Rattle.worm_mesh.specs.Address.{node_count}
use Rattle.worm_theory.specs.Steps.{Feed}
use Rattle.worm_router.specs.Router.{ChannelState, RouterState, after_accept, fresh_channel, input_at, line, put_in}
use Rattle.worm_router.specs.Router.{terminal}
use Rattle.worm_term.specs.Queue.{QueueState, empty_queue, one_fed, waiting}
use Rattle.worm_term.specs.Source.{SourceState, after_fed, front_of, queue_at}
use Rattle.worm_region.specs.Shape.{net_shape}
use Rattle.worm_node.specs.NewNodes.{fresh_node}
use Rattle.worm_region.specs.State.{NetState, node_at, router_at, source_at, with_node}
use Rattle.worm_node.specs.Node.{AreToFeed, can_enter, fed_node}
use Rattle.worm_region.specs.Moves.{Covers, NoFeed}
use Rattle.worm_region.specs.Workable.{IsWorkable}
use Rattle.worm_region.specs.Replies.{Replies}
use Rattle.worm_region.specs.Resting.{nth_node}
use Rattle.worm_node.specs.declared.node.Node.{Node}
use Rattle.worm_region.specs.declared.step.Moved.{Moved}
use Rattle.worm_region.specs.declared.fault.StepFault.{StepFault}
use Rattle.worm_region.proofs.ReachedBySteps.{by_made}
use Rattle.worm_region.proofs.EachCovered.{Kind}
use Rattle.worm_region.proofs.FrameKept.{is_nth}
use Rattle.worm_region.proofs.Resting.{feed_still}

-- what is fed of one class is not of another, nor was it

other_front : (s : SourceState) (q k : ℕ) → (k ≡ q → ⊥) → front_of (after_fed s q) k ≡ front_of s k
other_front s q k away =
    ap (λ (a : QueueState). option_map (λ f. with_channel f (first_channel s.channels k)) (waiting a))
    (get_or-set_other s.queues q k (one_fed (queue_at s q)) empty_queue away)

-- a flit that comes in leaves no more room than there was
as_long : (xs : List ChannelState) (i j : ℕ) (v d : ChannelState)
    → length (get_or xs i d).buffer ≤ length v.buffer
    → length (get_or xs j d).buffer ≤ length (get_or (set xs i v) j d).buffer
as_long xs i j v d longer = elim (cases_eq j i) [
  | inl same ↦ elim (cases_lt i (length xs)) [
    | inl there ↦
        let here = get_or-set_at xs i j v d same there in
        let was = ap (λ k. length (get_or xs k d).buffer) same in
        let is = ap (λ (c : ChannelState). length c.buffer) here in
        omega arith
    | inr past ↦ let is = ap (λ (l : List ChannelState). length (get_or l j d).buffer) (set_past xs i v past) in
        omega arith
  ]
  | inr other ↦ let is = ap (λ (c : ChannelState). length c.buffer) (get_or-set_other xs i j v d other) in omega arith
]

enters_not : (r : RouterState) (port p : ℕ) (f : Flit) (o : Option Flit) → can_enter r p o ≡ false
    → can_enter (after_accept r port f) p o ≡ false
enters_not r port p f None none = refl
enters_not r port p f (Some g) none =
    let c = input_at r port f.vc in
    let more = length-append c.buffer (f ∷ []) in
    let longer = as_long r.inputs (line r port f.vc) (line r p g.vc) (put_in c f) (fresh_channel r.depth)
    (omega arith) in
    let past : r.depth ≤ length (input_at r p g.vc).buffer = grind (arith, nat_tests) in
    let room : r.depth ≤ length (input_at (after_accept r port f) p g.vc).buffer = omega arith in
    grind (arith, nat_tests)

feed_kept : (s : NetState) (x q k : ℕ) (f : Option Flit) → x < length s.nodes → (k ≡ q → ⊥) → NoFeed s x k
    → NoFeed (with_node s x (fed_node (node_at s x) q f)) x k
feed_kept s x q k None there away none =
    ap (λ (n : Node). can_enter n.router (terminal n.router) (front_of n.source k))
    (get_or-set_same s.nodes x (fed_node (node_at s x) q None) (fresh_node s.mesh s.channels s.depth x) there)
    ∙ none
feed_kept s x q k (Some f) there away none =
    let r = router_at s x in
    ap (λ (n : Node). can_enter n.router (terminal n.router) (front_of n.source k))
    (get_or-set_same s.nodes x (fed_node (node_at s x) q (Some f)) (fresh_node s.mesh s.channels s.depth x) there)
    ∙ ap (can_enter (after_accept r (terminal r) f) (terminal r)) (other_front (source_at s x) q k away)
    ∙ enters_not r (terminal r) (terminal r) f (front_of (source_at s x) k) none

pub feed_elsewhere : (a b : NetState) (x q : ℕ) (answer : Result Moved StepFault) → IsWorkable a
    → Replies a (Feed x q) answer b → (k : ℕ) → (k ≡ q → ⊥) → NoFeed a x k → NoFeed b x k
unfolding net_shape
feed_elsewhere a b x q answer net replies k away none =
    by_made (λ s. NoFeed s x k) a b (Feed x q) answer replies none
    (λ done.
    let all = net.framed.all_nodes in
    let x_in = done.there.0 in
    feed_kept a x q k (front_of (source_at a x) q) (omega arith) away none)

-- where there is none a step feeds none

pub few_classes : (s : NetState) → IsWorkable s → length s.channels ≤ 8
few_classes s net = let few = net.framed.classes.few in omega arith

abbrev pub classes : (x : ℕ) → Kind x
classes x = record {
  count = λ s. length s.channels;
  same = λ a b config. ap (λ (counts : List ℕ). length counts) config.channels;
  few = few_classes;
  step = Feed x;
  NoneAt = λ s. NoFeed s x;
  still = λ s k net x_in k_in none. feed_still s x k net x_in k_in none;
}

-- the set of the classes that are tried
pub unfed_cover : (s : NetState) (x set : ℕ) → IsWorkable s → x < node_count s.mesh
    → AreToFeed (node_at s x) set → Covers (NoFeed s x) (length s.channels) set
unfed_cover s x set net x_in feeds =
    let all = net.framed.all_nodes in
    let node = net.framed.each_node x (omega arith) in
    let source = source_at s x in
    let queues : length source.queues ≡ length s.channels =
    node.source_holds.all_queues ∙ ap (λ (counts : List ℕ). length counts) node.source_channels in
    record {
      rest = λ k k_few k_in off. feeds.rest k k_few off;
      places = λ k k_few on. elim (cases_lt k (length s.channels)) [
        | inl below ↦ below
        | inr above ↦
            let past = get_or_past source.queues k empty_queue (omega arith) in
            let one = feeds.some k k_few on in
            absurd (let gone = sym (ap (λ (a : QueueState). is_some (waiting a)) past) ∙ one in cc)
      ];
    }

-- a node's source and router have the same classes
pub same_channels : (s : NetState) (x : ℕ) → IsWorkable s → x < node_count s.mesh
    → (source_at s x).channels ≡ (router_at s x).channels
same_channels s x net x_in =
    let all = net.framed.all_nodes in
    let node = net.framed.each_node x (omega arith) in
    node.source_channels ∙ sym node.same_channels

pub nth_channels : (s : NetState) (x : ℕ) → IsWorkable s → x < node_count s.mesh
    → (nth_node s.nodes x).source.channels ≡ (nth_node s.nodes x).router.channels
nth_channels s x net x_in =
    subst (λ (n : Node). n.source.channels ≡ n.router.channels) (sym (is_nth s x net.framed x_in))
    (same_channels s x net x_in)
