-- The flits that sources accepted are those in the sinks and those under way, lane by lane.
use Rattle.std.proofs.Common.{◌≡◌, ◌==◌, ◌&&◌, ℕ, zero, suc, ◌+◌, ◌*◌, ◌<◌, ◌≤◌, Bool, true, false, cond, inl, inr}
use Rattle.std.proofs.Common.{List, [], ◌∷◌, ◌++◌, length, map, drop, Option, Some, None, refl, sym, ap, subst, ◌∙◌}
use Rattle.std.proofs.Common.{arith, length-append}
use Rattle.std.specs.Prelude.{All, flat_map}
use Rattle.std.specs.List.{count_by, filter, sum_by}
use Rattle.std.proofs.lemmas.Bool.{cases_eq, eq-eqb, ne_eqb}
use Rattle.std.proofs.lemmas.List.{length-map, map-append}
use Rattle.std.proofs.lemmas.List.Elements.{All-cons, All-head, All-nil, All-tail, All-weaker}
use Rattle.std.proofs.lemmas.List.Sums.{length-filter, sum_by-append, sum_by-cons}
use Rattle.worm_flit.specs.declared.Flit.{Flit}
use Rattle.worm_flit.specs.declared.Lane.{Lane}
use Rattle.worm_flit.specs.Stamps.{bare, is_of_lane, of_lane, on_channel}
use Rattle.worm_mesh.specs.Address.{node_count}
use Rattle.worm_mesh.specs.Links.{sum_below}
use Rattle.worm_mesh.proofs.Counts.{sum_below_same}
use Rattle.worm_term.specs.Lanes.{lane_of}
use Rattle.worm_theory.specs.PacketCut.{is_of_packet, packet_held}
use Rattle.worm_theory.specs.Shape.{IsMesh, Shape}
use Rattle.worm_theory.specs.Sound.{IsFrom, Leaves}
use Rattle.worm_theory.proofs.Places.{bool_cases}
use Rattle.worm_region.specs.Shape.{net_shape}
use Rattle.worm_region.specs.State.{NetState, IsNet, input_of, link_of, network_of, queue_of, router_at, shape, sink_at}
use Rattle.worm_region.specs.Totals.{delivered_total, injected_below, injected_total}
use Rattle.worm_region.proofs.FrameKept.{framed_mesh}
use Rattle.worm_region.proofs.Room.{sum_add, sum_none, sum_same}
use Rattle.worm_core.specs.LaneView.{at_place, buffer_held, channels_of, held_at, joined_view, link_held, underway_view}
use Rattle.worm_core.specs.declared.view.Held.{Held}
use Rattle.worm_core.specs.declared.view.Place.{Place}
use Rattle.worm_core.specs.declared.view.Place.TheVariants.{Source, Buffer, Link}
use Rattle.worm_core.proofs.ViewCuts.{packets_are_cut}
use Rattle.worm_route.specs.Places.{Place as Spot, Source as AtSource, Buffer as AtBuffer, Link as AtLink, places_of}

-- ---- sums over numbers

-- where all are 0
none_below : (g : ℕ → ℕ) (n : ℕ) → ((v : ℕ) → v < n → g v ≡ 0) → sum_below g n ≡ 0
none_below g n none = sum_below_same g (λ v. 0) n none ∙ sum_none n

-- where all but one are 0
single : (g : ℕ → ℕ) (n c : ℕ) → c < n → ((v : ℕ) → (v ≡ c → ⊥) → g v ≡ 0) → sum_below g n ≡ g c
single g zero c below none = absurd (omega arith)
single g (suc n) c below none = elim (cases_eq n c) [
  | inl same ↦
      let here : n ≡ c = same in
      let before : sum_below g n ≡ 0 =
      none_below g n (λ v v_in. none v (λ e. let is_c : v ≡ c = e in absurd (omega arith))) in
      let last : g n ≡ g c = ap g here in
      omega arith
  | inr other ↦
      let away : n ≡ c → ⊥ = other in
      let before : sum_below g n ≡ g c = single g n c (omega arith) none in
      let last : g n ≡ 0 = none n away in
      omega arith
]

sum_swap : (f : ℕ → ℕ → ℕ) (n m : ℕ)
    → sum_below (λ x. sum_below (λ y. f x y) m) n ≡ sum_below (λ y. sum_below (λ x. f x y) n) m
sum_swap f zero m = sym (sum_none m)
sum_swap f (suc n) m =
    ap (λ (k : ℕ). k + sum_below (λ y. f n y) m) (sum_swap f n m)
    ∙ sym (sum_add (λ y. sum_below (λ x. f x y) n) (λ y. f n y) m)

-- ---- sums over lists

sum_each : {X : Type 0} (g : ℕ → X → ℕ) (n : ℕ) (xs : List X)
    → sum_below (λ v. sum_by (g v) xs) n ≡ sum_by (λ x. sum_below (λ v. g v x) n) xs
sum_each g n [] = sum_none n
sum_each g n (x ∷ xs) =
    sum_same (λ v. sum_by (g v) (x ∷ xs)) (λ v. g v x + sum_by (g v) xs) n (λ v. sum_by-cons (g v) x xs)
    ∙ sum_add (λ v. g v x) (λ v. sum_by (g v) xs) n
    ∙ ap (λ (k : ℕ). sum_below (λ v. g v x) n + k) (sum_each g n xs)
    ∙ sym (sum_by-cons (λ x. sum_below (λ v. g v x) n) x xs)

sums_alike : {X : Type 0} (f g : X → ℕ) (xs : List X) → All (λ x. f x ≡ g x) xs → sum_by f xs ≡ sum_by g xs
sums_alike f g [] each = refl
sums_alike f g (x ∷ xs) each =
    let here : f x ≡ g x = All-head (λ y. f y ≡ g y) x xs each in
    let rest : sum_by f xs ≡ sum_by g xs = sums_alike f g xs (All-tail (λ y. f y ≡ g y) x xs each) in
    sum_by-cons f x xs ∙ (λ t. here t + rest t) ∙ sym (sum_by-cons g x xs)

ones : {X : Type 0} (xs : List X) → sum_by (λ (x : X). 1) xs ≡ length xs
ones [] = refl
ones (x ∷ xs) =
    let more = sum_by-cons (λ y. 1) x xs in
    let rest = ones xs in
    more ∙ omega arith

-- ---- one flit

abbrev one_if : Bool → ℕ
one_if b = cond b 1 0

-- 1 where the flit is of the lane
abbrev of_one : ℕ → ℕ → ℕ → Flit → ℕ
of_one src dst class f = one_if (is_of_lane (lane_of src dst class) f)

all_three : (a b c : Bool) → a ≡ true → b ≡ true → c ≡ true → one_if (a && b && c) ≡ 1
all_three a b c p q r = rw (p, q, r) refl

first_off : (a b c : Bool) → a ≡ false → one_if (a && b && c) ≡ 0
first_off a b c off = rw off refl

second_off : (a b c : Bool) → b ≡ false → one_if (a && b && c) ≡ 0
second_off true b c off = rw off refl
second_off false b c off = refl

third_off : (a b c : Bool) → c ≡ false → one_if (a && b && c) ≡ 0
third_off true true c off = rw off refl
third_off true false c off = refl
third_off false b c off = refl

-- a flit from a source is of one lane of that source and class
by_destination : (n src class : ℕ) (f : Flit) → f.lane.src ≡ src → f.lane.dst < n → f.lane.class ≡ class
    → sum_below (λ d. of_one src d class f) n ≡ 1
by_destination n src class f from to of =
    single (λ d. of_one src d class f) n f.lane.dst to
    (λ d other. second_off (f.lane.src == src) (f.lane.dst == d) (f.lane.class == class)
    (ne_eqb f.lane.dst d (λ e. other (sym e))))
    ∙ all_three (f.lane.src == src) (f.lane.dst == f.lane.dst) (f.lane.class == class) (eq-eqb f.lane.src src from)
    (eq-eqb f.lane.dst f.lane.dst refl) (eq-eqb f.lane.class class of)

-- a flit in a sink is of one lane to that sink
by_source : (n m dst : ℕ) (f : Flit) → f.lane.src < n → f.lane.dst ≡ dst → f.lane.class < m
    → sum_below (λ x. sum_below (λ k. of_one x dst k f) m) n ≡ 1
by_source n m dst f from to of =
    single (λ x. sum_below (λ k. of_one x dst k f) m) n f.lane.src from
    (λ x other. none_below (λ k. of_one x dst k f) m
    (λ k k_in. first_off (f.lane.src == x) (f.lane.dst == dst) (f.lane.class == k)
    (ne_eqb f.lane.src x (λ e. other (sym e)))))
    ∙ (single (λ k. of_one f.lane.src dst k f) m f.lane.class of
    (λ k other. third_off (f.lane.src == f.lane.src) (f.lane.dst == dst) (f.lane.class == k)
    (ne_eqb f.lane.class k (λ e. other (sym e))))
    ∙ all_three (f.lane.src == f.lane.src) (f.lane.dst == dst) (f.lane.class == f.lane.class)
    (eq-eqb f.lane.src f.lane.src refl) (eq-eqb f.lane.dst dst to) (eq-eqb f.lane.class f.lane.class refl))

-- ---- a lane's flits, by their packets

packet_here : (b : Bool) (p : ℕ) → one_if (b && (p == p)) ≡ one_if b
packet_here true p = rw (eq-eqb p p refl) refl
packet_here false p = refl

packet_away : (b : Bool) (k p : ℕ) → (k ≡ p → ⊥) → one_if (b && (k == p)) ≡ 0
packet_away true k p other = rw (ne_eqb k p other) refl
packet_away false k p other = refl

-- past the numbers of their packets
abbrev past_packets : List Flit → ℕ
past_packets fs = sum_by (λ (f : Flit). suc f.packet) fs

packets_once : (lane : Lane) (n : ℕ) (fs : List Flit) → past_packets fs ≤ n
    → All (λ f. sum_below (λ k. one_if (is_of_packet lane k f)) n ≡ one_if (is_of_lane lane f)) fs
packets_once lane n [] fits =
    All-nil (λ f. sum_below (λ k. one_if (is_of_packet lane k f)) n ≡ one_if (is_of_lane lane f))
packets_once lane n (f ∷ fs) fits =
    let more : past_packets (f ∷ fs) ≡ suc f.packet + past_packets fs = sum_by-cons (λ (g : Flit). suc g.packet) f fs in
    All-cons (λ f. sum_below (λ k. one_if (is_of_packet lane k f)) n ≡ one_if (is_of_lane lane f)) f fs
    (single (λ k. one_if (is_of_packet lane k f)) n f.packet (omega arith)
    (λ k other. packet_away (is_of_lane lane f) k f.packet other) ∙ packet_here (is_of_lane lane f) f.packet)
    (packets_once lane n fs (omega arith))

packets_counted : (lane : Lane) (n : ℕ) (fs : List Flit) → past_packets fs ≤ n
    → sum_below (λ k. length (packet_held lane k fs)) n ≡ count_by (is_of_lane lane) fs
packets_counted lane n fs fits =
    sum_same (λ k. length (packet_held lane k fs)) (λ k. sum_by (λ f. one_if (is_of_packet lane k f)) fs) n
    (λ k. length-map (filter (is_of_packet lane k) fs) bare ∙ length-filter (is_of_packet lane k) fs)
    ∙ sum_each (λ k f. one_if (is_of_packet lane k f)) n fs
    ∙ sums_alike (λ f. sum_below (λ k. one_if (is_of_packet lane k f)) n) (λ f. one_if (is_of_lane lane f)) fs
    (packets_once lane n fs fits)

-- lists with the same packets of a lane have as many flits of it
counted_alike : (lane : Lane) (fs gs : List Flit) → ((k : ℕ) → packet_held lane k fs ≡ packet_held lane k gs)
    → count_by (is_of_lane lane) fs ≡ count_by (is_of_lane lane) gs
counted_alike lane fs gs same =
    sym (packets_counted lane (past_packets fs + past_packets gs) fs (omega arith))
    ∙ sum_same (λ k. length (packet_held lane k fs)) (λ k. length (packet_held lane k gs))
    (past_packets fs + past_packets gs) (λ k. ap (λ (l : List Flit). length l) (same k))
    ∙ packets_counted lane (past_packets fs + past_packets gs) gs (omega arith)

-- ---- what is viewed of a lane is all of the lane

abbrev AreOfLane : Lane → List Held → Type 0
AreOfLane lane hs = count_by (is_of_lane lane) (map (λ (h : Held). h.flit) hs) ≡ length hs

joined_held : (lane : Lane) (hs gs : List Held) → AreOfLane lane hs → AreOfLane lane gs → AreOfLane lane (hs ++ gs)
joined_held lane hs gs h k =
    let sums = sum_by-append (λ f. one_if (is_of_lane lane f)) (map (λ (h : Held). h.flit) hs)
    (map (λ (h : Held). h.flit) gs) in
    let long = length-append hs gs in
    ap (count_by (is_of_lane lane)) (map-append (λ (h : Held). h.flit) hs gs) ∙ (sums ∙ omega (arith, h, k, long))

each_held : {X : Type 0} (lane : Lane) (g : X → List Held) (xs : List X) → ((x : X) → AreOfLane lane (g x))
    → AreOfLane lane (flat_map g xs)
each_held lane g [] each = refl
each_held lane g (x ∷ xs) each =
    joined_held lane (g x) (flat_map g xs) (each x) (each_held lane g xs each)

one_held : (lane : Lane) (place : Place) (f : Flit) (fs : List Flit) → is_of_lane lane f ≡ true
    → AreOfLane lane (at_place place fs) → AreOfLane lane (at_place place (f ∷ fs))
one_held lane place f fs of rest =
    let more = sum_by-cons (λ g. one_if (is_of_lane lane g)) f (map (λ (h : Held). h.flit) (at_place place fs)) in
    let one : one_if (is_of_lane lane f) ≡ 1 = rw of refl in
    more ∙ omega (arith, one, rest)

place_held : (lane : Lane) (place : Place) (fs : List Flit) → AreOfLane lane (at_place place (of_lane lane fs))
place_held lane place [] = refl
place_held lane place (f ∷ fs) = elim (bool_cases (is_of_lane lane f)) [
  | inl of ↦
      let kept : of_lane lane (f ∷ fs) ≡ f ∷ of_lane lane fs = rw of refl in
      subst (λ (gs : List Flit). AreOfLane lane (at_place place gs)) (sym kept)
      (one_held lane place f (of_lane lane fs) of (place_held lane place fs))
  | inr other ↦
      let left : of_lane lane (f ∷ fs) ≡ of_lane lane fs = rw other refl in
      subst (λ (gs : List Flit). AreOfLane lane (at_place place gs)) (sym left) (place_held lane place fs)
]

spot_held : (s : NetState) (lane : Lane) (spot : Spot) → AreOfLane lane (held_at s lane spot)
spot_held s lane AtSource =
    place_held lane Source (drop (queue_of s lane.src lane.class).fed (queue_of s lane.src lane.class).injected)
spot_held s lane (AtBuffer x p) = each_held lane (buffer_held s lane x p) (channels_of s.channels lane.class)
    (λ v. place_held lane (Buffer x p v) (input_of (router_at s x) p v).buffer)
spot_held s lane (AtLink x o) = each_held lane (link_held s lane x o) (channels_of s.channels lane.class)
    (λ v. place_held lane (Link x o v) (on_channel v (link_of s x o).flits))

view_held : (s : NetState) (lane : Lane) → AreOfLane lane (underway_view s lane)
view_held s lane = each_held lane (held_at s lane) (places_of s.mesh lane.src lane.dst) (spot_held s lane)

-- ---- the lanes of what a source accepted and of what is in a sink

-- what leaves by the terminal is at home
at_home : (s : Shape) → IsMesh s → (x d h : ℕ) → s.hops x d ≡ h → x < s.nodes → d < s.nodes
    → s.next_port x d ≡ s.terminal → d ≡ x
at_home s mesh x d zero none x_in d_in by = sym (mesh.arrives x d x_in d_in none).0
at_home s mesh x d (suc n) more x_in d_in by =
    let on = mesh.goes_on x d n x_in d_in more in
    let linked : s.neighbour x s.terminal ≡ Some on.0 = subst (λ (q : ℕ). s.neighbour x q ≡ Some on.0) by on.1 in
    let clash : ◌≡◌ {A = Option ℕ} None (Some on.0) = sym (mesh.terminal_alone x) ∙ linked in
    absurd (cc)

-- the theory's terminal is the sink
sunk : (s : NetState) (x : ℕ) → (network_of s).out x (shape s).terminal ≡ (sink_at s x).delivered
unfolding network_of net_shape
sunk s x = let itself : (2 * length s.mesh == 2 * length s.mesh) ≡ true = grind arith in rw itself refl

module _ (s : NetState) (net : IsNet s) where
  abbrev nodes : ℕ
  nodes = node_count s.mesh

  abbrev classes : ℕ
  classes = length s.channels

  -- of a lane: the flits injected, delivered and under way
  abbrev injected : ℕ → ℕ → ℕ → ℕ
  injected src dst class = count_by (is_of_lane (lane_of src dst class)) (queue_of s src class).injected

  abbrev arrived : ℕ → ℕ → ℕ → ℕ
  arrived src dst class = count_by (is_of_lane (lane_of src dst class)) (sink_at s dst).delivered

  abbrev held : ℕ → ℕ → ℕ → ℕ
  held src dst class = length (underway_view s (lane_of src dst class))

  -- of all lanes
  abbrev over_lanes : (ℕ → ℕ → ℕ → ℕ) → ℕ
  over_lanes f = sum_below (λ src. sum_below (λ dst. sum_below (λ class. f src dst class) classes) nodes) nodes

  lane_counted : (src dst class : ℕ) → src < nodes → dst < nodes → class < classes
      → injected src dst class ≡ arrived src dst class + held src dst class
  lane_counted src dst class src_in dst_in class_in =
      let same = counted_alike (lane_of src dst class)
      (joined_view s (lane_of src dst class) (underway_view s (lane_of src dst class)))
      (queue_of s src class).injected
      (packets_are_cut s net (lane_of src dst class) src_in dst_in class_in) in
      let parts = sum_by-append (λ f. one_if (is_of_lane (lane_of src dst class) f)) (sink_at s dst).delivered
      (map (λ (h : Held). h.flit) (underway_view s (lane_of src dst class))) in
      let all = view_held s (lane_of src dst class) in
      sym same ∙ (parts ∙ ap (λ (k : ℕ). arrived src dst class + k) all)

  source_counted : (x k : ℕ) → sum_below (λ dst. injected x dst k) nodes ≡ length (queue_of s x k).injected
  unfolding network_of net_shape
  source_counted x k =
      sum_each (λ dst f. of_one x dst k f) nodes (queue_of s x k).injected
      ∙ (sums_alike (λ f. sum_below (λ dst. of_one x dst k f) nodes) (λ f. 1) (queue_of s x k).injected
      (All-weaker (IsFrom (shape s) x k) (λ f. sum_below (λ dst. of_one x dst k f) nodes ≡ 1)
      (λ f from. by_destination nodes x k f from.own from.lane_there.destination from.own_class)
      (queue_of s x k).injected (net.sound.accepted x k))
      ∙ ones (queue_of s x k).injected)

  sink_counted : (x : ℕ) → x < nodes
      → sum_below (λ src. sum_below (λ class. arrived src x class) classes) nodes ≡ length (sink_at s x).delivered
  unfolding net_shape
  sink_counted x x_in =
      sum_same (λ src. sum_below (λ class. arrived src x class) classes)
      (λ src. sum_by (λ f. sum_below (λ class. of_one src x class f) classes) (sink_at s x).delivered) nodes
      (λ src. sum_each (λ class f. of_one src x class f) classes (sink_at s x).delivered)
      ∙ (sum_each (λ src f. sum_below (λ class. of_one src x class f) classes) nodes (sink_at s x).delivered
      ∙ (sums_alike (λ f. sum_below (λ src. sum_below (λ class. of_one src x class f) classes) nodes) (λ f. 1)
      (sink_at s x).delivered
      (All-weaker (Leaves (shape s) x (shape s).terminal)
      (λ f. sum_below (λ src. sum_below (λ class. of_one src x class f) classes) nodes ≡ 1)
      (λ f leaves. by_source nodes classes x f leaves.lane_there.source
      (at_home (shape s) (framed_mesh s net.framed) x f.lane.dst ((shape s).hops x f.lane.dst) refl x_in
      leaves.lane_there.destination leaves.by_port) leaves.lane_there.class)
      (sink_at s x).delivered
      (subst (All (Leaves (shape s) x (shape s).terminal)) (sunk s x) (net.sound.leaving x (shape s).terminal)))
      ∙ ones (sink_at s x).delivered))

  all_injected : injected_total s ≡ over_lanes injected
  all_injected =
      sum_below_same (λ x. injected_below s x classes)
      (λ x. sum_below (λ dst. sum_below (λ class. injected x dst class) classes) nodes) nodes
      (λ x x_in. sum_same (λ k. length (queue_of s x k).injected) (λ k. sum_below (λ dst. injected x dst k) nodes)
      classes (λ k. sym (source_counted x k)) ∙ sum_swap (λ k dst. injected x dst k) classes nodes)

  all_arrived : delivered_total s ≡ over_lanes arrived
  all_arrived =
      sum_below_same (λ x. length (sink_at s x).delivered)
      (λ x. sum_below (λ src. sum_below (λ class. arrived src x class) classes) nodes) nodes
      (λ x x_in. sym (sink_counted x x_in))
      ∙ sum_swap (λ x src. sum_below (λ class. arrived src x class) classes) nodes nodes

  pub all_counted : injected_total s ≡ delivered_total s + over_lanes held
  all_counted =
      all_injected
      ∙ (sum_below_same (λ src. sum_below (λ dst. sum_below (λ class. injected src dst class) classes) nodes)
      (λ src. sum_below (λ dst. sum_below (λ class. arrived src dst class) classes) nodes
      + sum_below (λ dst. sum_below (λ class. held src dst class) classes) nodes) nodes
      (λ src src_in. sum_below_same (λ dst. sum_below (λ class. injected src dst class) classes)
      (λ dst. sum_below (λ class. arrived src dst class) classes + sum_below (λ class. held src dst class) classes)
      nodes
      (λ dst dst_in. sum_below_same (λ class. injected src dst class)
      (λ class. arrived src dst class + held src dst class) classes
      (λ class class_in. lane_counted src dst class src_in dst_in class_in)
      ∙ sum_add (λ class. arrived src dst class) (λ class. held src dst class) classes)
      ∙ sum_add (λ dst. sum_below (λ class. arrived src dst class) classes)
      (λ dst. sum_below (λ class. held src dst class) classes) nodes)
      ∙ (sum_add (λ src. sum_below (λ dst. sum_below (λ class. arrived src dst class) classes) nodes)
      (λ src. sum_below (λ dst. sum_below (λ class. held src dst class) classes) nodes) nodes
      ∙ ap (λ (k : ℕ). k + over_lanes held) (sym all_arrived)))
