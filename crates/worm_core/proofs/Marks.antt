-- Marks of lanes are never lost; and of a lane without a mark no marked list has a flit.
use Rattle.std.proofs.Common.{ℕ, zero, suc, ◌≡◌, ◌+◌, ◌*◌, ◌<◌, ◌≤◌, ◌^◌, Bool, true, false, ◌==◌, ◌⊎◌, inl, inr, List}
use Rattle.std.proofs.Common.{[], ◌∷◌, ◌-◌, length, take, drop, sum, set, get_or, not, Some, arith, refl, ap, sym}
use Rattle.std.proofs.Common.{subst, ◌∙◌, mul_comm}
use Rattle.std.specs.Prelude.{slice_get, IsSome, Option}
use Rattle.std.proofs.Math.Nat.{mul-le-mul_left, mul-le-mul_right}
use Rattle.std.specs.List.{list_all, slice_range}
use Rattle.std.proofs.lemmas.Nat.{mul-add-lt}
use Rattle.std.proofs.lemmas.List.{get_or-drop, get_or-take, get_or_past, length-drop, length-take-le}
use Rattle.std.proofs.lemmas.List.Folds.{list_all_at}
use Rattle.std.proofs.lemmas.List.Elements.{All-filter, All-head, All-tail, All-append}
use Rattle.worm_flit.specs.declared.Lane.{Lane}
use Rattle.worm_flit.specs.declared.Flit.{Flit}
use Rattle.worm_flit.specs.Stamps.{is_of_lane, of_lane, on_channel}
use Rattle.worm_mesh.specs.Address.{node_count, has_neighbour}
use Rattle.worm_mesh.proofs.Digits.{AreLarge-from_radices}
use Rattle.worm_mesh.proofs.Neighbours.{IsLink-from_test, neighbour_of-some}
use Rattle.worm_route.specs.Places.{Place as Spot, Source as AtSource, Buffer as AtBuffer, Link as AtLink, places_of}
use Rattle.worm_router.specs.Router.{ChannelState, terminal, width, input_at, fresh_channel}
use Rattle.worm_term.specs.Source.{classes, queue_at}
use Rattle.worm_theory.proofs.Places.{bool_cases}
use Rattle.worm_region.specs.Moves.{link_out}
use Rattle.worm_region.specs.State.{NetState, IsFramed, router_at, node_at, queue_of, link_at, link_of, input_of}
use Rattle.worm_node.specs.NewNodes.{fresh_node}
use Rattle.worm_core.specs.LaneView.{channels_of, at_place, held_at, buffer_held, link_held}
use Rattle.worm_node.specs.declared.node.Node.{Node}
use Rattle.worm_core.specs.declared.view.Place.{Place}
use Rattle.worm_core.specs.declared.view.Place.TheVariants.{Source, Buffer, Link}
use Rattle.worm_core.specs.LaneSet.{LaneMarks, lane_line, is_marked, with_mark, AllMarked, KeepsMarks, IsComplete}
use Rattle.worm_core.specs.LaneSet.{IsMarkedOut, LacksAllFrom, LinksMarked, NodesMarked}
use Rattle.worm_region.proofs.NodeWritten.{below_cases}
use Rattle.worm_region.proofs.NewNet.{input_fresh}
use Rattle.worm_core.proofs.ViewLists.{take_more, none_each}

-- where a mark stands fits a machine number
pub line_small : (a n b k c : ℕ) → a < 256 → n ≤ 256 → b < 256 → k ≤ 4 → c < 256 → (a * n + b) * k + c < 2 ^ 64
line_small a n b k c p q r s t =
    let row : a * n ≤ a * 256 = mul-le-mul_left a q in
    let pair : (a * n + b) * k ≤ (a * n + b) * 4 = mul-le-mul_left (a * n + b) s in
    omega arith

set_keeps : (marks : List Bool) (i j : ℕ) → get_or marks j true ≡ true → get_or (set marks i true) j true ≡ true
set_keeps [] i j e = refl
set_keeps (m ∷ ms) zero zero e = refl
set_keeps (m ∷ ms) zero (suc j) e = e
set_keeps (m ∷ ms) (suc i) zero e = e
set_keeps (m ∷ ms) (suc i) (suc j) e = set_keeps ms i j e

set_marks : (marks : List Bool) (i : ℕ) → get_or (set marks i true) i true ≡ true
set_marks [] i = refl
set_marks (m ∷ ms) zero = refl
set_marks (m ∷ ms) (suc i) = set_marks ms i

pub mark_keeps : (old : LaneMarks) (lane : Lane) → KeepsMarks old (with_mark old lane)
mark_keeps old lane = record { kept = λ other e. set_keeps old.marks (lane_line old lane) (lane_line old other) e }

pub mark_marks : (old : LaneMarks) (lane : Lane) → is_marked (with_mark old lane) lane ≡ true
mark_marks old lane = set_marks old.marks (lane_line old lane)

pub keeps_then : (old mid new : LaneMarks) → KeepsMarks old mid → KeepsMarks mid new → KeepsMarks old new
keeps_then old mid new first then = record { kept = λ lane e. then.kept lane (first.kept lane e) }

pub still_marked : (old new : LaneMarks) (fs : List Flit) → KeepsMarks old new → AllMarked old fs → AllMarked new fs
still_marked old new fs keeps all k d there = keeps.kept (get_or fs k d).lane (all k d there)

-- one flit more of a list
only : (set : LaneMarks) (f : Flit) → is_marked set f.lane ≡ true → AllMarked set (f ∷ [])
only set f here zero d there = here
only set f here (suc k) d there = absurd (omega arith)

pub marked_more : (old new : LaneMarks) (fs : List Flit) (i : ℕ) (f : Flit) → slice_get fs i ≡ Some f
    → new ≡ with_mark old f.lane → AllMarked old (take i fs) → AllMarked new (take (i + 1) fs)
marked_more old new fs i f is now all =
    let marked : (g : Flit) → Type 0 = λ g. is_marked new g.lane ≡ true in
    let keeps : KeepsMarks old new = subst (λ (s : LaneMarks). KeepsMarks old s) (sym now) (mark_keeps old f.lane) in
    let here : is_marked new f.lane ≡ true =
    subst (λ (s : LaneMarks). is_marked s f.lane ≡ true) (sym now) (mark_marks old f.lane) in
    subst (AllMarked new) (sym (take_more fs i f is))
    (All-append marked (take i fs) (f ∷ []) (still_marked old new (take i fs) keeps all) (only new f here))

pub keeps_more : (start old new : LaneMarks) (lane : Lane) → KeepsMarks start old → new ≡ with_mark old lane
    → KeepsMarks start new
keeps_more start old new lane kept now =
    keeps_then start old new kept (subst (λ (s : LaneMarks). KeepsMarks old s) (sym now) (mark_keeps old lane))

-- the same of a list that is read by index
read_there : {A : Type 0} (xs : List A) (i : ℕ) (d : A) → i < length xs → slice_get xs i ≡ Some (get_or xs i d)
read_there [] i d there = absurd (omega arith)
read_there (x ∷ xs) zero d there = refl
read_there (x ∷ xs) (suc i) d there = read_there xs i d (omega arith)

pub keeps_read : (start old new : LaneMarks) (fs : List Flit) (i : ℕ) (d : Flit)
    → new ≡ with_mark old (get_or fs i d).lane → KeepsMarks start old → KeepsMarks start new
keeps_read start old new fs i d now kept = keeps_more start old new (get_or fs i d).lane kept now

pub marked_read : (old new : LaneMarks) (fs : List Flit) (i : ℕ) (d : Flit) → new ≡ with_mark old (get_or fs i d).lane
    → i < length fs → AllMarked old (take i fs) → AllMarked new (take (i + 1) fs)
marked_read old new fs i d now there all = marked_more old new fs i (get_or fs i d) (read_there fs i d there) now all

-- a list whose lanes are marked has no flit of a lane without a mark

same_lane : (lane : Lane) (f : Flit) → is_of_lane lane f ≡ true
    → (f.lane.src ≡ lane.src) × (f.lane.dst ≡ lane.dst) × (f.lane.class ≡ lane.class)
same_lane lane f of = (grind arith, grind arith, grind arith)

pub none_of_lane : (set : LaneMarks) (lane : Lane) (fs : List Flit) → is_marked set lane ≡ false → AllMarked set fs
    → of_lane lane fs ≡ []
none_of_lane set lane [] free all = refl
none_of_lane set lane (f ∷ fs) free all =
    elim (bool_cases (is_of_lane lane f)) [
      | inl of ↦
          let same = same_lane lane f of in
          let src = same.0 in
          let dst = same.1 in
          let class = same.2 in
          let at : lane_line set f.lane ≡ lane_line set lane =
          λ t. (src t * set.nodes + dst t) * set.classes + class t in
          let marked : is_marked set lane ≡ true =
          subst (λ (i : ℕ). get_or set.marks i true ≡ true) at
          (All-head (λ (g : Flit). is_marked set g.lane ≡ true) f fs all) in
          let clash : true ≡ false = sym marked ∙ free in
          absurd (cc)
      | inr other ↦ rw other (none_of_lane set lane fs free
          (All-tail (λ (g : Flit). is_marked set g.lane ≡ true) f fs all))
    ]

is_there : {o : Option ℕ} {y : ℕ} → o ≡ Some y → IsSome o
is_there e = rw e refl

none_marked : (set : LaneMarks) → AllMarked set []
none_marked set k d there = absurd (omega arith)

port_cases : (p t : ℕ) → (p ≤ t) ⊎ (t < p)
port_cases p t = grind arith

-- past the last port no line is left
past_lines : (p t w v : ℕ) → t < p → (t + 1) * w ≤ p * w + v
past_lines p t w v h = let rows : (t + 1) * w ≤ p * w = mul-le-mul_right w (let le : t + 1 ≤ p = omega arith in le) in
    omega arith

past_all : (s : NetState) → IsFramed s → (x p v : ℕ) → x < length s.nodes → 2 * length s.mesh < p
    → length (router_at s x).inputs ≤ p * width (router_at s x) + v
past_all s framed x p v inside past =
    let node = framed.each_node x inside in
    let all = node.all_inputs in
    let longer : terminal (router_at s x) < p = rw node.same_mesh past in
    let lines = past_lines p (terminal (router_at s x)) (width (router_at s x)) v longer in
    omega arith

module _ (s : NetState) (framed : IsFramed s) (set : LaneMarks) (nodes : NodesMarked s set (node_count s.mesh))
    (links : LinksMarked s set (node_count s.mesh)) where
  buffer_marked : (x p v : ℕ) → AllMarked set (input_of (router_at s x) p v).buffer
  buffer_marked x p v = elim (below_cases x (length s.nodes)) [
    | inl inside ↦
        let node = framed.each_node x inside.1 in
        let all = framed.all_nodes in
        let there : x < node_count s.mesh = let within = inside.1 in omega arith in
        elim (below_cases v (width (router_at s x))) [
          | inl channel ↦
              let v_in : v < sum s.channels = rw node.same_channels at channel.1 in
              elim (port_cases p (2 * length s.mesh)) [
                | inl port ↦ rw channel.0 (nodes.buffers x p v there port v_in)
                | inr past ↦
                    let lines : length (router_at s x).inputs ≤ p * width (router_at s x) + v =
                    past_all s framed x p v inside.1 past in
                    rw channel.0 (subst (λ (c : ChannelState). AllMarked set c.buffer)
                    (sym (get_or_past (router_at s x).inputs (p * width (router_at s x) + v)
                    (fresh_channel (router_at s x).depth) lines)) (none_marked set))
              ]
          | inr past ↦ rw past.0 (none_marked set)
        ]
    | inr outside ↦
        let fresh : node_at s x ≡ fresh_node s.mesh s.channels s.depth x =
        get_or_past s.nodes x (fresh_node s.mesh s.channels s.depth x) outside.1 in
        subst (λ (n : Node). AllMarked set (input_of n.router p v).buffer) (sym fresh)
        (subst (λ (c : ChannelState). AllMarked set c.buffer) (sym (input_fresh s.mesh x s.channels s.depth p v))
        (none_marked set))
  ]

  link_marked : (x o : ℕ) → AllMarked set (link_of s x o).flits
  link_marked x o = elim (bool_cases (has_neighbour s.mesh x o)) [
    | inl has ↦
        let large = AreLarge-from_radices s.mesh framed.radices.radices in
        let link = IsLink-from_test s.mesh x o large has in
        let linked = is_there (neighbour_of-some s.mesh x o link.0 large link.1) in
        rw has (links.links x o link.1.from_node link.1.mesh_port linked)
    | inr none ↦ rw none (none_marked set)
  ]

  module _ (lane : Lane) (src : lane.src < node_count s.mesh) (class : lane.class < length s.channels)
      (free : is_marked set lane ≡ false) where
    none_at : (place : Place) (fs : List Flit) → AllMarked set fs → at_place place (of_lane lane fs) ≡ []
    none_at place fs all = ap (at_place place) (none_of_lane set lane fs free all)

    none_held : (spot : Spot) → held_at s lane spot ≡ []
    none_held AtSource = none_at Source (drop (queue_of s lane.src lane.class).fed
        (queue_of s lane.src lane.class).injected) (nodes.sources lane.src lane.class src class)
    none_held (AtBuffer x p) =
        none_each (buffer_held s lane x p) (channels_of s.channels lane.class)
        (λ v. none_at (Buffer x p v) (input_of (router_at s x) p v).buffer (buffer_marked x p v))
    none_held (AtLink x o) =
        none_each (link_held s lane x o) (channels_of s.channels lane.class)
        (λ v. none_at (Link x o v) (on_channel v (link_of s x o).flits)
        (All-filter (λ (f : Flit). v == f.vc) (λ (f : Flit). is_marked set f.lane ≡ true) (link_of s x o).flits
        (link_marked x o)))

  pub complete : IsComplete s set
  complete lane src dst class free = none_each (held_at s lane) (places_of s.mesh lane.src lane.dst)
      (none_held lane src class free)

pub still_nodes : (s : NetState) (old new : LaneMarks) (n : ℕ) → KeepsMarks old new → NodesMarked s old n
    → NodesMarked s new n
still_nodes s old new n keeps all = record {
  sources = λ x k x_in k_in. still_marked old new (drop (queue_of s x k).fed (queue_of s x k).injected) keeps
      (all.sources x k x_in k_in);
  buffers = λ x p v x_in p_in v_in. still_marked old new (input_at (router_at s x) p v).buffer keeps
      (all.buffers x p v x_in p_in v_in);
}

-- one node more
pub node_marked : (s : NetState) → IsFramed s → (x : ℕ) → x < node_count s.mesh
    → (old mid new : LaneMarks) (node : Node) → node ≡ node_at s x
    → NodesMarked s old x → KeepsMarks old mid → KeepsMarks mid new
    → ((k : ℕ) → k < classes node.source → AllMarked mid
    (drop (queue_at node.source k).fed (queue_at node.source k).injected))
    → ((p v : ℕ) → p ≤ terminal node.router → v < width node.router → AllMarked new (input_at node.router p v).buffer)
    → NodesMarked s new (x + 1)
node_marked s framed x x_in old mid new node is before first then sources buffers =
    let all = framed.all_nodes in
    let there : x < length s.nodes = omega arith in
    let frame = framed.each_node x there in
    let own_sources : (k : ℕ) → k < classes (node_at s x).source
    → AllMarked mid (drop (queue_of s x k).fed (queue_of s x k).injected) =
    subst (λ (n : Node). (k : ℕ) → k < classes n.source
    → AllMarked mid (drop (queue_at n.source k).fed (queue_at n.source k).injected)) is sources in
    let own_buffers : (p v : ℕ) → p ≤ terminal (router_at s x) → v < width (router_at s x)
    → AllMarked new (input_at (router_at s x) p v).buffer =
    subst (λ (n : Node). (p v : ℕ) → p ≤ terminal n.router → v < width n.router
    → AllMarked new (input_at n.router p v).buffer) is buffers in
    let so_far = still_nodes s old new x (keeps_then old mid new first then) before in
    record {
      sources = λ y k y_in k_in. elim (below_cases y x) [
        | inl less ↦ so_far.sources y k less.1 k_in
        | inr at ↦
            let low = at.1 in
            let same : x ≡ y = omega arith in
            let count : k < classes (node_at s x).source = rw frame.source_channels k_in in
            let here = still_marked mid new (drop (queue_of s x k).fed (queue_of s x k).injected)
            then (own_sources k count) in
            subst (λ (z : ℕ). AllMarked new (drop (queue_of s z k).fed (queue_of s z k).injected)) same here
      ];
      buffers = λ y p v y_in p_in v_in. elim (below_cases y x) [
        | inl less ↦ so_far.buffers y p v less.1 p_in v_in
        | inr at ↦
            let low = at.1 in
            let same : x ≡ y = omega arith in
            let here = own_buffers p v (rw frame.same_mesh p_in) (rw frame.same_channels v_in) in
            subst (λ (z : ℕ). AllMarked new (input_at (router_at s z) p v).buffer) same here
      ];
    }

-- and the links out of it
pub links_more : (s : NetState) (old new : LaneMarks) (x : ℕ) → KeepsMarks old new → LinksMarked s old x
    → ((o : ℕ) → o < 2 * length s.mesh → IsMarkedOut s new x o) → LinksMarked s new (x + 1)
links_more s old new x keeps before here = record {
  links = λ y o y_in o_in linked. elim (below_cases y x) [
    | inl less ↦ still_marked old new (link_at s (link_out s y o)).flits keeps
        (before.links y o less.1 o_in linked)
    | inr at ↦
        let low = at.1 in
        let same : x ≡ y = omega arith in
        subst (λ (z : ℕ). IsMarkedOut s new z o) same (here o o_in) linked
  ];
}

-- ---- the lanes from one source stand together

clear_at : (marks : List Bool) (i : ℕ) → i < length marks → list_all not marks ≡ true → get_or marks i true ≡ false
clear_at marks i within clear = elim (bool_cases (get_or marks i true)) [
  | inl set ↦
      let some : list_all not marks ≡ false = list_all_at not marks i true within (ap not set) in
      let unlike : true ≡ false = sym clear ∙ some in
      absurd (cc)
  | inr unset ↦ unset
]

pub lacks_all : (lanes : LaneMarks) (src nodes count first row : ℕ) → nodes ≡ lanes.nodes → count ≡ lanes.classes
    → row ≡ nodes * count → first ≡ src * row → first + row ≤ length lanes.marks
    → list_all not (slice_range lanes.marks first (first + row)) ≡ true → LacksAllFrom lanes src nodes count
lacks_all lanes src nodes count first row same same' is_row is_first room clear dst class dst_in class_in =
    let at : ℕ = dst * count + class in
    let inside : at < row = let within = mul-add-lt dst count class nodes dst_in class_in in
    omega (arith, within, is_row, mul_comm nodes count) in
    let parts : (src * nodes + dst) * count + class ≡ src * (nodes * count) + (dst * count + class) =
    grind (arith) in
    let place : lane_line lanes (record { src = src; dst = dst; class = class }) ≡ first + at =
    ap (λ n. (src * n + dst) * lanes.classes + class) (sym same)
    ∙ ap (λ k. (src * nodes + dst) * k + class) (sym same') ∙ parts
    ∙ ap (λ n. n + at) (ap (λ n. src * n) (sym is_row) ∙ sym is_first) in
    let width : first + row - first ≡ row = omega arith in
    let long : length (slice_range lanes.marks first (first + row)) ≡ row =
    ap (λ n. length (take n (drop first lanes.marks))) width
    ∙ length-take-le row (drop first lanes.marks) (omega (arith, room, length-drop first lanes.marks)) in
    let read : get_or (slice_range lanes.marks first (first + row)) at true ≡ get_or lanes.marks (first + at) true =
    ap (λ n. get_or (take n (drop first lanes.marks)) at true) width
    ∙ get_or-take row (drop first lanes.marks) at true inside ∙ get_or-drop first lanes.marks at true in
    ap (λ k. get_or lanes.marks k true) place ∙ sym read
    ∙ clear_at (slice_range lanes.marks first (first + row)) at (omega (arith, inside, long)) clear
