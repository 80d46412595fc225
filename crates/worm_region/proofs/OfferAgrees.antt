-- A source accepts a packet or a mark just where the theory enables Offer or CloseLane, and that makes of the network
-- what those do.
use Rattle.std.proofs.Common.{◌≡◌, ℕ, ◌+◌, ◌*◌, ◌<◌, ◌≤◌, ◌==◌, nat_le, nat_lt, ◌&&◌, Bool, true, false, inl, inr}
use Rattle.std.proofs.Common.{List, [], ◌∷◌, ◌++◌, length, drop, Ok, Err, Option, Some, None, refl, arith, ap, sym}
use Rattle.std.proofs.Common.{subst, ◌∙◌}
use Rattle.std.specs.Prelude.{slice_index, Result, unwrap_or}
use Rattle.std.proofs.lemmas.List.{drop-append-le}
use Rattle.worm_flit.specs.declared.Lane.{Lane}
use Rattle.worm_flit.specs.declared.Flit.{Flit}
use Rattle.worm_flit.specs.Packets.{PacketState, packet_flits, mark}
use Rattle.worm_flit.specs.Stamps.{of_lane}
use Rattle.worm_flit.specs.Channels.{first_channel, owns}
use Rattle.worm_flit.proofs.Owners.{owns-from_owner}
use Rattle.worm_theory.proofs.Channels.{owned_by}
use Rattle.worm_term.specs.declared.fault.OfferFault.{OfferFault}
use Rattle.worm_term.specs.declared.fault.OfferFault.TheVariants.{WrongSource, NoSuchNode, NoSuchClass, ManyChannels}
use Rattle.worm_term.specs.declared.fault.OfferFault.TheVariants.{LaneClosed, LaneFull, NoMemory as NoRoom}
use Rattle.worm_term.specs.Lanes.{lane_of}
use Rattle.worm_term.specs.Queue.{appended}
use Rattle.worm_term.specs.Source.{SourceState, IsSource, IsOpen, classes, queue_at, lane_at, refusal}
use Rattle.worm_term.specs.Source.{IsAnswered, next_number as next_of_lane, with_packet, after_offer, after_close}
use Rattle.worm_term.proofs.Order.{offer_sound, close_sound}
use Rattle.worm_theory.specs.Shape.{OwnsOne}
use Rattle.worm_theory.specs.Network.{Network, put2, put3}
use Rattle.worm_theory.specs.Steps.{Step, Offer, CloseLane, IsThere, Enabled, Accepts, after, offered, packets_in}
use Rattle.worm_theory.specs.Steps.{has_mark, lane_injected, next_number}
use Rattle.worm_mesh.specs.Address.{node_count}
use Rattle.worm_region.specs.Shape.{net_shape}
use Rattle.worm_region.specs.declared.step.Moved.{Moved}
use Rattle.worm_region.specs.declared.step.Moved.TheVariants.{Done}
use Rattle.worm_region.specs.declared.fault.StepFault.{StepFault}
use Rattle.worm_region.specs.declared.fault.StepFault.TheVariants.{Refused}
use Rattle.worm_region.specs.State.{NetState, IsFramed, IsNodeOf, IsSameConfig, shape, network_of, node_at, router_at}
use Rattle.worm_region.specs.State.{source_at, queue_of, with_source, input_of, output_of}
use Rattle.worm_region.specs.Workable.{IsWorkableBy}
use Rattle.worm_region.specs.Moves.{done_step}
use Rattle.worm_region.specs.Replies.{Hindered, Replies}
use Rattle.worm_region.specs.Answers.{accepted_of, refusal_of, Grows}
use Rattle.worm_region.proofs.NodeWritten.{put2_same, put3_same, node_bridge, itself3, below_cases, with_source_same}
use Rattle.worm_region.proofs.FrameKept.{kept, node_framed}
use Rattle.worm_region.proofs.Sources.{counted_packets, queue_grown, within_grown, none_refused, refuses_none}
use Rattle.worm_region.proofs.Sources.{refusal_named}

-- what a source's queue is in the theory
injected_at : (s : NetState) (x k : ℕ) → (network_of s).injected x k ≡ (queue_of s x k).injected
unfolding network_of
injected_at s x k = refl

-- the source after some flits more of a class are accepted
module _ (s : NetState) (x : ℕ) (lane : Lane) (fs : List Flit) (is_last : Bool) (framed : IsFramed s)
    (x_in : x < length s.nodes) (k_in : lane.class < length s.channels) where
  abbrev k : ℕ
  k = lane.class

  abbrev grown_source : SourceState
  grown_source = with_packet (source_at s x) lane fs is_last

  queue_in : k < length (source_at s x).queues
  queue_in =
      let node = framed.each_node x x_in in
      let all = node.source_holds.all_queues in
      let same = ap (λ (cs : List ℕ). length cs) node.source_channels in
      omega arith

  pub new_node : IsSource grown_source →
      IsNodeOf s.mesh s.channels s.depth x (record (node_at s x) { source = grown_source })
  new_node sound =
      let old = framed.each_node x x_in in
      record {
        same_mesh = old.same_mesh;
        same_node = old.same_node;
        same_channels = old.same_channels;
        same_depth = old.same_depth;
        all_inputs = old.all_inputs;
        all_outputs = old.all_outputs;
        source_node = old.source_node;
        source_nodes = old.source_nodes;
        source_channels = old.source_channels;
        source_holds = sound;
        fed_within = within_grown (source_at s x) k fs queue_in old.fed_within;
        sink_node = old.sink_node;
      }

  pub offer_bridge : network_of (with_source s x grown_source) ≡ offered (network_of s) x k fs
  unfolding network_of
  offer_bridge =
      let N = network_of s in
      let r = router_at s x in
      let q = queue_of s x k in
      let old = framed.each_node x x_in in
      let within = old.fed_within k in
      let buffer = put3_same N.buffer x 0 0 (input_of r 0 0).buffer refl in
      let state = put3_same N.in_record x 0 0 (input_of r 0 0).state refl in
      let last_out = put3_same N.last_out x 0 0 (input_of r 0 0).last_out refl in
      let owed = put3_same N.owed x 0 0 (input_of r 0 0).owed refl in
      let holder = put3_same N.holder x 0 0 (output_of r 0 0).holder refl in
      let credits = put3_same N.credits x 0 0 (output_of r 0 0).credits refl in
      let itself : (2 * length s.mesh == 2 * length s.mesh) ≡ true = grind arith in
      let out = put2_same N.out x (2 * length s.mesh) (node_at s x).sink.delivered (rw itself refl) in
      let unfed : drop q.fed (q.injected ++ fs) ≡ drop q.fed q.injected ++ fs =
      rw (drop-append-le q.fed q.injected fs within) refl in
      let same : record N {
        buffer = put3 N.buffer x 0 0 (input_of r 0 0).buffer;
        in_record = put3 N.in_record x 0 0 (input_of r 0 0).state;
        last_out = put3 N.last_out x 0 0 (input_of r 0 0).last_out;
        owed = put3 N.owed x 0 0 (input_of r 0 0).owed;
        holder = put3 N.holder x 0 0 (output_of r 0 0).holder;
        credits = put3 N.credits x 0 0 (output_of r 0 0).credits;
        out = put2 N.out x (2 * length s.mesh) (node_at s x).sink.delivered;
        injected = put2 N.injected x k (q.injected ++ fs);
        unfed = put2 N.unfed x k (drop q.fed (q.injected ++ fs));
      } ≡ record N {
        injected = put2 N.injected x k (q.injected ++ fs);
        unfed = put2 N.unfed x k (drop q.fed q.injected ++ fs);
      }
      = λ t. record N {
        buffer = buffer t;
        in_record = state t;
        last_out = last_out t;
        owed = owed t;
        holder = holder t;
        credits = credits t;
        out = out t;
        injected = put2 N.injected x k (q.injected ++ fs);
        unfed = put2 N.unfed x k (unfed t);
      } in
      node_bridge s x 0 0 0 0 k (record (node_at s x) { source = grown_source }) (input_of r 0 0) (output_of r 0 0)
      (appended q fs) x_in
      (itself3 (input_of r) 0 0)
      (itself3 (output_of r) 0 0)
      (queue_grown (source_at s x) k fs queue_in)
      ∙ same

-- what the source's counters say
module _ (s : NetState) (x : ℕ) (lane : Lane) {mine : ℕ → Bool} (net : IsWorkableBy mine s)
    (x_in : x < length s.nodes) where
  abbrev t : SourceState
  t = source_at s x

  abbrev N : Network
  N = network_of s

  own : IsNodeOf s.mesh s.channels s.depth x (node_at s x)
  own = net.framed.each_node x x_in

  counters : lane.src ≡ x → lane.dst < t.nodes → lane.class < classes t →
      (next_number N lane ≡ (lane_at t lane).next) × (has_mark (lane_injected N lane) ≡ (lane_at t lane).closed)
  counters src dst_in class_in =
      let packets = own.source_holds.in_order lane.dst lane.class dst_in class_in in
      let from : lane_of t.node lane.dst lane.class ≡ lane =
      ap (λ (n : ℕ). lane_of n lane.dst lane.class) (own.source_node ∙ sym src) in
      let list : (queue_at t lane.class).injected ≡ N.injected lane.src lane.class =
      sym (ap (λ (y : ℕ). N.injected y lane.class) src ∙ injected_at s x lane.class) in
      let counted = counted_packets (lane_of t.node lane.dst lane.class) _ _ _ packets in
      let same : of_lane (lane_of t.node lane.dst lane.class) (queue_at t lane.class).injected ≡ lane_injected N lane =
      λ i. of_lane (from i) (list i) in
      (ap packets_in (sym same) ∙ counted.0, ap has_mark (sym same) ∙ counted.1)

  -- an open lane is one that the theory's source accepts
  pub accepts : IsOpen t lane → Accepts (shape s) N x lane
  unfolding net_shape
  accepts is_open =
      let src : lane.src ≡ x = is_open.from_here ∙ own.source_node in
      let count = counters src is_open.dst_in is_open.class_in in
      let dst : lane.dst < node_count s.mesh = rw (← own.source_nodes) is_open.dst_in in
      let class : lane.class < length s.channels = rw (← own.source_channels) is_open.class_in in
      let all = net.framed.all_nodes in
      let room = is_open.room in
      let number = count.0 in
      record {
        own = src;
        lane_there = record { source = rw src (omega arith); destination = dst; class = class };
        is_open = count.1 ∙ is_open.open_yet;
        room = omega arith;
      }

  pub opens_to : Accepts (shape s) N x lane → IsOpen t lane
  unfolding net_shape
  opens_to accepting =
      let dst : lane.dst < t.nodes = rw own.source_nodes accepting.lane_there.destination in
      let class : lane.class < classes t = rw own.source_channels accepting.lane_there.class in
      let count = counters accepting.own dst class in
      let room = accepting.room in
      let number = count.0 in
      record {
        from_here = accepting.own ∙ sym own.source_node;
        dst_in = dst;
        class_in = class;
        room = omega arith;
        open_yet = sym count.1 ∙ accepting.is_open;
      }

  pub same_number : IsOpen t lane → next_number N lane ≡ next_of_lane t lane
  same_number is_open = (counters (is_open.from_here ∙ own.source_node) is_open.dst_in is_open.class_in).0

-- a class owns one channel where its count says so

low : (a v d : ℕ) → (nat_le a v && nat_lt v d) ≡ true → a ≤ v
low a v d e = grind arith

high : (a v d : ℕ) → (nat_le a v && nat_lt v d) ≡ true → v < d
high a v d e = grind arith

between : (a v d : ℕ) → a ≤ v → v < d → (nat_le a v && nat_lt v d) ≡ true
between a v d p q = grind arith

owns_one : (counts : List ℕ) (depth : ℕ) (mesh : List ℕ) (class : ℕ) → slice_index counts class ≤ 1 →
    OwnsOne (net_shape mesh counts depth) class
unfolding net_shape
owns_one counts depth mesh class few v owned =
    let test : owns counts class v ≡ true = owns-from_owner counts class v owned.0 owned.1 in
    let from = low (first_channel counts class) v (first_channel counts class + slice_index counts class) test in
    let to = high (first_channel counts class) v (first_channel counts class + slice_index counts class) test in
    omega arith

one_owned : (counts : List ℕ) (depth : ℕ) (mesh : List ℕ) (class : ℕ) → OwnsOne (net_shape mesh counts depth) class →
    slice_index counts class ≤ 1
unfolding net_shape
one_owned counts depth mesh class one =
    elim (below_cases 1 (slice_index counts class)) [
      | inl more ↦
          let many = more.1 in
          let test : owns counts class (first_channel counts class + 1) ≡ true =
          between (first_channel counts class) (first_channel counts class + 1)
          (first_channel counts class + slice_index counts class) (omega arith) (omega arith) in
          let same =
          one (first_channel counts class + 1) (owned_by counts class (first_channel counts class + 1) test) in
          absurd (omega arith)
      | inr few ↦ few.1
    ]

refused_is : (fault : OfferFault) → (fault ≡ NoRoom → ⊥) → accepted_of (Err fault) ≡ Err (Refused fault)
refused_is WrongSource other = refl
refused_is NoSuchNode other = refl
refused_is NoSuchClass other = refl
refused_is ManyChannels other = refl
refused_is LaneClosed other = refl
refused_is LaneFull other = refl
refused_is NoRoom other = absurd (other refl)

-- what a source's answer says of the step
record Judges (own : ℕ → Bool) (s : NetState) (x : ℕ) (lane : Lane) (is_last : Bool) (step : Step)
    (after_it : NetState) : Type 0 where
  refuses : refusal_of s step ≡ refusal (source_at s x) lane is_last
  enables : refusal (source_at s x) lane is_last ≡ None → Enabled (shape s) (network_of s) step
  enabled : Enabled (shape s) (network_of s) step → refusal (source_at s x) lane is_last ≡ None
  grows : Grows (shape s) (network_of s) step
  free : Hindered s step → ⊥
  exact : after_it ≡ done_step s step
  made : refusal (source_at s x) lane is_last ≡ None →
      IsWorkableBy own after_it × (network_of after_it ≡ after (shape s) (network_of s) step) × IsSameConfig s after_it

Outcome : (ℕ → Bool) → NetState → Step → Result Moved StepFault → NetState → Type 0
Outcome own s step answer new = IsWorkableBy own new × Replies s step answer new

err_answers : (s : NetState) (x : ℕ) (lane : Lane) (is_last : Bool) (step : Step) (after_it : NetState) →
    {own : ℕ → Bool} → IsWorkableBy own s → IsThere (shape s) step → Judges own s x lane is_last step after_it
    → (r : Option OfferFault) → refusal (source_at s x) lane is_last ≡ r →
    Outcome own s step (accepted_of (Err (unwrap_or r NoRoom))) s
unfolding Outcome
err_answers s x lane is_last step after_it net there judges None e =
    (net, (there, judges.enables e, judges.grows, refl, judges.free))
err_answers s x lane is_last step after_it {own} net there judges (Some fault) e =
    let named : fault ≡ NoRoom → ⊥ =
    λ same. refusal_named (source_at s x) lane is_last (e ∙ ap (λ (g : OfferFault). Some g) same) in
    let idle : Enabled (shape s) (network_of s) step → ⊥ = λ enabled.
    let none = judges.enabled enabled in
    let some : ◌≡◌ {A = Option OfferFault} (Some fault) None = sym e ∙ none in absurd (cc) in
    subst (λ (answer : Result Moved StepFault). IsWorkableBy own s ×
    Replies s step answer s) (sym (refused_is fault named)) (net, (there, idle, judges.refuses ∙ e, refl))

answers : (s : NetState) (x : ℕ) (lane : Lane) (is_last : Bool) (step : Step) (after_it new : SourceState) →
    {own : ℕ → Bool} → IsWorkableBy own s → x < length s.nodes → IsThere (shape s) step →
    Judges own s x lane is_last step (with_source s x after_it) → (answer : Result ℕ OfferFault)
    → IsAnswered (refusal (source_at s x) lane is_last) answer (source_at s x) after_it new
    → Outcome own s step (accepted_of answer) (with_source s x new)
unfolding Outcome
answers s x lane is_last step after_it new {own} net x_in there judges (Ok number) answered =
    let made = judges.made answered.ok.0 in
    subst (λ (t : SourceState). IsWorkableBy own (with_source s x t)
    × Replies s step (Ok Done) (with_source s x t)) (sym answered.ok.1) (
      made.0,
      record {
        there = there;
        enabled = judges.enables answered.ok.0;
        free = judges.free;
        after_it = made.1;
        config = made.2;
        exact = judges.exact;
        framed = made.0.framed;
      },
    )
answers s x lane is_last step after_it new {own} net x_in there judges (Err e) answered =
    let same : with_source s x new ≡ s =
    ap (λ (t : SourceState). with_source s x t) answered.err ∙ with_source_same s x x_in in
    let at : IsWorkableBy own s × Replies s step
    (accepted_of (Err (unwrap_or (refusal (source_at s x) lane is_last) NoRoom))) s =
    err_answers s x lane is_last step (with_source s x after_it) net there judges
    (refusal (source_at s x) lane is_last) refl in
    subst (λ (t : NetState). IsWorkableBy own t × Replies s step (accepted_of (Err e)) t) (sym same)
    (subst (λ (g : OfferFault). IsWorkableBy own s × Replies s step (accepted_of (Err g)) s) (sym answered.fault) at)

module _ (s : NetState) (x : ℕ) {own : ℕ → Bool} (net : IsWorkableBy own s) where
  node_in : x < (shape s).nodes → x < length s.nodes
  unfolding net_shape
  node_in there = let all = net.framed.all_nodes in omega arith

  class_in : (lane : Lane) → x < length s.nodes → IsOpen (source_at s x) lane → lane.class < length s.channels
  class_in lane x_in is_open = let node = net.framed.each_node x x_in in rw (← node.source_channels) is_open.class_in

  offer_judges : (p : PacketState) → 1 ≤ length p.words → length p.words ≤ 32 → x < (shape s).nodes →
      Judges own s x p.lane false (Offer x p.lane p.words) (with_source s x (after_offer (source_at s x) p))
  offer_judges p some few there =
      let x_in = node_in there in
      record {
        refuses = refl;
        enables = λ none. (accepts s x p.lane net x_in (none_refused (source_at s x) p.lane false none).0, some, few);
        enabled =
            λ enabled. refuses_none (source_at s x) p.lane false (opens_to s x p.lane net x_in enabled.0)
            (λ e. absurd (cc));
        grows = tt;
        free = λ hindered. hindered;
        exact = refl;
        made = λ none.
            let is_open = (none_refused (source_at s x) p.lane false none).0 in
            let k_in = class_in p.lane x_in is_open in
            let node = net.framed.each_node x x_in in
            let accepting = accepts s x p.lane net x_in is_open in
            let number : next_of_lane (source_at s x) p.lane ≡ next_number (network_of s) p.lane =
            sym (same_number s x p.lane net x_in is_open) in
            let bridge =
            offer_bridge s x p.lane (packet_flits p.lane (next_of_lane (source_at s x) p.lane) p.words) false
            net.framed x_in k_in in
            let step =
            bridge ∙ ap (λ (n : ℕ). offered (network_of s) x p.lane.class (packet_flits p.lane n p.words)) number in
            let sound = offer_sound (source_at s x) p node.source_holds is_open some few in
            let new = with_source s x (after_offer (source_at s x) p) in
            let framed =
            node_framed s x _ net.framed x_in
            (new_node s x p.lane (packet_flits p.lane (next_of_lane (source_at s x) p.lane) p.words) false net.framed
            x_in k_in sound) in (
              kept s new.nodes s.links (Offer x p.lane p.words) net there (accepting, some, few) framed step,
              step,
              record { mesh = refl; channels = refl; depth = refl; names = refl; own = refl },
            );
      }

  close_judges : (lane : Lane) → x < (shape s).nodes →
      Judges own s x lane true (CloseLane x lane) (with_source s x (after_close (source_at s x) lane))
  close_judges lane there =
      let x_in = node_in there in
      let node = net.framed.each_node x x_in in
      let same = node.source_channels in
      let one : slice_index (source_at s x).channels lane.class ≤ 1 → OwnsOne (shape s) lane.class =
      λ few. owns_one s.channels s.depth s.mesh lane.class
      (subst (λ (cs : List ℕ). slice_index cs lane.class ≤ 1) same few) in
      record {
        refuses = refl;
        enables = λ none.
            let found = none_refused (source_at s x) lane true none in
            (accepts s x lane net x_in found.0, one (found.1 refl));
        enabled =
            λ enabled. refuses_none (source_at s x) lane true (opens_to s x lane net x_in enabled.0)
            (λ _. subst (λ (cs : List ℕ). slice_index cs lane.class ≤ 1) (sym same)
            (one_owned s.channels s.depth s.mesh lane.class enabled.1));
        grows = tt;
        free = λ hindered. hindered;
        exact = refl;
        made = λ none.
            let found = none_refused (source_at s x) lane true none in
            let is_open = found.0 in
            let k_in = class_in lane x_in is_open in
            let accepting = accepts s x lane net x_in is_open in
            let number : next_of_lane (source_at s x) lane ≡ next_number (network_of s) lane =
            sym (same_number s x lane net x_in is_open) in
            let bridge =
            offer_bridge s x lane (mark lane (next_of_lane (source_at s x) lane) ∷ []) true net.framed x_in k_in in
            let step = bridge ∙ ap (λ (n : ℕ). offered (network_of s) x lane.class (mark lane n ∷ [])) number in
            let sound = close_sound (source_at s x) lane node.source_holds is_open in
            let new = with_source s x (after_close (source_at s x) lane) in
            let node_is =
            new_node s x lane (mark lane (next_of_lane (source_at s x) lane) ∷ []) true net.framed x_in k_in sound in
            let framed = node_framed s x _ net.framed x_in node_is in (
              kept s new.nodes s.links (CloseLane x lane) net there (accepting, one (found.1 refl)) framed step,
              step,
              record { mesh = refl; channels = refl; depth = refl; names = refl; own = refl },
            );
      }

  pub offer_answers : (p : PacketState) → 1 ≤ length p.words → length p.words ≤ 32 → x < (shape s).nodes →
      (answer : Result ℕ OfferFault) (t new : SourceState) → t ≡ source_at s x
      → IsAnswered (refusal t p.lane false) answer t (after_offer t p) new
      → IsWorkableBy own (with_source s x new)
      × Replies s (Offer x p.lane p.words) (accepted_of answer) (with_source s x new)
  unfolding Outcome net_shape
  offer_answers p some few there answer t new is answered =
      answers s x p.lane false (Offer x p.lane p.words) (after_offer (source_at s x) p) new
      net (node_in there) there (offer_judges p some few there) answer
      (subst (λ (u : SourceState). IsAnswered (refusal u p.lane false) answer u (after_offer u p) new) is answered)

  pub close_answers : (lane : Lane) → x < (shape s).nodes → (answer : Result ℕ OfferFault) (t new : SourceState)
      → t ≡ source_at s x
      → IsAnswered (refusal t lane true) answer t (after_close t lane) new
      → IsWorkableBy own (with_source s x new)
      × Replies s (CloseLane x lane) (accepted_of answer) (with_source s x new)
  unfolding Outcome net_shape
  close_answers lane there answer t new is answered =
      answers s x lane true (CloseLane x lane) (after_close (source_at s x) lane) new
      net (node_in there) there (close_judges lane there) answer
      (subst (λ (u : SourceState). IsAnswered (refusal u lane true) answer u (after_close u lane) new) is answered)
