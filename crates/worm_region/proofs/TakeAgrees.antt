-- A node takes a flit just where the theory enables Take, and that makes of the network what Take does.
use Rattle.std.proofs.Common.{◌≡◌, ℕ, ◌*◌, ◌<◌, ◌≤◌, Bool, true, false, if◌then◌else◌, inl, inr, List, [], ◌∷◌, ◌++◌}
use Rattle.std.proofs.Common.{length, drop, sum, Ok, Option, Some, None, refl, arith, ap, sym, subst, ◌∙◌}
use Rattle.std.specs.Prelude.{All, IsSome, slice_get}
use Rattle.std.proofs.Math.ListN.{length-set}
use Rattle.std.proofs.lemmas.List.Elements.{All-head}
use Rattle.worm_flit.specs.declared.Flit.{Flit}
use Rattle.worm_mesh.specs.Address.{neighbour_of, opposite_of, node_count}
use Rattle.worm_mesh.specs.Links.{links_before}
use Rattle.worm_router.specs.Router.{ChannelState, input_at, put_in, after_accept}
use Rattle.worm_theory.specs.Network.{Network, put2, put3}
use Rattle.worm_theory.specs.Steps.{Take, IsThere, Enabled, FrontIs, IsLinked, after, taken, taken_from}
use Rattle.worm_region.specs.Shape.{net_shape}
use Rattle.worm_region.specs.State.{NetState, IsFramed, IsNetPlace, shape, network_of, router_at, with_router}
use Rattle.worm_wires.specs.Links.{LinkView}
use Rattle.worm_region.specs.State.{link_at}
use Rattle.worm_region.specs.Workable.{IsWorkableBy, IsSent}
use Rattle.worm_region.specs.Replies.{Replies}
use Rattle.worm_region.specs.Answers.{moved_of}
use Rattle.worm_node.specs.Node.{FrontFits, has_room, can_enter}
use Rattle.worm_region.specs.Moves.{done_step, link_into, front_into}
use Rattle.worm_wires.specs.Wiring.{into_from}
use Rattle.worm_region.specs.Moves.{after_take}
use Rattle.worm_region.proofs.LinksThere.{feeder}
use Rattle.worm_region.proofs.LinkedPorts.{of_node, port_there}
use Rattle.worm_region.proofs.ListFronts.{first_of, none_of}
use Rattle.worm_region.proofs.NodeWritten.{put2_same, put3_same, input_bridge, input_of-there, below_cases}
use Rattle.worm_region.proofs.LinkWritten.{link_bridge, link_framed, out_there, credits_there}
use Rattle.worm_region.proofs.FrameKept.{step_made, router_framed}
use Rattle.worm_region.proofs.AsListed.{buffer_there}

-- the buffer alone is changed
buffer_bridge : (s : NetState) (x p : ℕ) (f : Flit) → IsFramed s → IsNetPlace s x p f.vc
    → network_of (with_router s x (after_accept (router_at s x) p f)) ≡
    record (network_of s) { buffer = put3 (network_of s).buffer x p f.vc ((network_of s).buffer x p f.vc ++ f ∷ []) }
unfolding network_of
buffer_bridge s x p f framed place =
    let c = input_at (router_at s x) p f.vc in
    let there = input_of-there (router_at s x) p f.vc place.place.channel_in in
    let state = put3_same (network_of s).in_record x p f.vc c.state (ap (λ (a : ChannelState). a.state) (sym there)) in
    let last_out =
    put3_same (network_of s).last_out x p f.vc c.last_out (ap (λ (a : ChannelState). a.last_out) (sym there)) in
    let owed = put3_same (network_of s).owed x p f.vc c.owed (ap (λ (a : ChannelState). a.owed) (sym there)) in
    let buffer : c.buffer ≡ (network_of s).buffer x p f.vc = ap (λ (a : ChannelState). a.buffer) (sym there) in
    let same : record (network_of s) {
      buffer = put3 (network_of s).buffer x p f.vc (c.buffer ++ f ∷ []);
      in_record = put3 (network_of s).in_record x p f.vc c.state;
      last_out = put3 (network_of s).last_out x p f.vc c.last_out;
      owed = put3 (network_of s).owed x p f.vc c.owed;
    }
    ≡ record (network_of s) { buffer = put3 (network_of s).buffer x p f.vc ((network_of s).buffer x p f.vc ++ f ∷ []) }
    = λ t. record (network_of s) {
      buffer = put3 (network_of s).buffer x p f.vc (buffer t ++ f ∷ []);
      in_record = state t;
      last_out = last_out t;
      owed = owed t;
    } in
    input_bridge s x p f.vc (put_in c f) place.node_in place.place (framed.each_node x place.node_in).all_inputs ∙ same

-- what a take that is tried leaves and answers, for the link k
Outcome : (ℕ → Bool) → NetState → ℕ → ℕ → ℕ → Option Flit → Bool → Type 0
Outcome own s x p k o b =
    IsWorkableBy own (if b then after_take s x p k o else s) ×
    Replies s (Take x p) (Ok (moved_of b)) (if b then after_take s x p k o else s)

module _ (s : NetState) (x p y : ℕ) {own : ℕ → Bool} (net : IsWorkableBy own s) (x_in : x < length s.nodes)
    (e : neighbour_of s.mesh x p ≡ Some y) where
  -- the front of a link may go into a buffer of its end
  front_place : (f : Flit) (rest : List Flit) → (link_at s (links_before s.mesh y (opposite_of p))).flits ≡ f ∷ rest →
      IsNetPlace s x p f.vc × (f.lane.dst < node_count (router_at s x).mesh)
  unfolding net_shape
  front_place f rest flits =
      let node = net.framed.each_node x x_in in
      let fed = feeder s x p y net.framed e in
      let out = out_there s y (opposite_of p) net.framed fed.has ∙ flits in
      let all = subst (λ (fs : List Flit). All (IsSent (shape s)) fs) out (net.works.out y (opposite_of p)) in
      let is_sent = All-head (IsSent (shape s)) f rest all in
      let port : p < 2 * length s.mesh = fed.port_in in
      let channel : f.vc < sum s.channels = is_sent.channel in
      let port_le : p ≤ 2 * length s.mesh = omega arith in (
        record {
          node_in = x_in;
          place = record { port_in = rw node.same_mesh port_le; channel_in = rw node.same_channels channel };
        },
        rw node.same_mesh is_sent.goal,
      )

  take_done : (f : Flit) → slice_get (link_at s (links_before s.mesh y (opposite_of p))).flits 0 ≡ Some f →
      has_room (router_at s x) p f ≡ true
      → Enabled (shape s) (network_of s) (Take x p) ×
      (network_of (after_take s x p (links_before s.mesh y (opposite_of p)) (Some f)) ≡
      after (shape s) (network_of s) (Take x p)) ×
      IsFramed (after_take s x p (links_before s.mesh y (opposite_of p)) (Some f))
  unfolding net_shape
  take_done f first room =
      let k = links_before s.mesh y (opposite_of p) in
      let o = opposite_of p in
      let N = network_of s in
      let node = net.framed.each_node x x_in in
      let fed = feeder s x p y net.framed e in
      let flits = first_of (link_at s k).flits f first in
      let rest = drop 1 (link_at s k).flits in
      let place = front_place f rest flits in
      let out : N.out y o ≡ f ∷ rest = out_there s y o net.framed fed.has ∙ flits in
      let buffer = buffer_there s x p f.vc place.0 in
      let fits : length (input_at (router_at s x) p f.vc).buffer < s.depth =
      elim (below_cases (length (input_at (router_at s x) p f.vc).buffer) (router_at s x).depth) [
        | inl h ↦ let lt = h.1 in let d = node.same_depth in omega arith
        | inr h ↦ let no = h.0 in absurd (cc)
      ] in
      let theirs : length (N.buffer x p f.vc) < s.depth = rw buffer fits in
      let front : FrontIs (N.out y o) (λ g. length (N.buffer x p g.vc) < s.depth) =
      subst (λ (fs : List Flit). FrontIs fs (λ g. length (N.buffer x p g.vc) < s.depth)) (sym out) theirs in
      let enabled : Enabled (shape s) N (Take x p) =
      subst (λ (z : Option ℕ). IsLinked z (λ y. FrontIs (N.out y o) (λ g. length (N.buffer x p g.vc) < s.depth)))
      (sym e) front in
      let r = after_accept (router_at s x) p f in
      let mid = with_router s x r in
      let mid_framed = router_framed s x r.inputs r.outputs net.framed x_in (rw length-set refl) refl in
      let l : LinkView = record (link_at s k) { flits = rest } in
      let from_mid = link_bridge mid y o l mid_framed fed.has in
      let mid_is = buffer_bridge s x p f net.framed place.0 in
      let linked : record (network_of mid) {
        out = put2 (network_of mid).out y o rest;
        credit_list = put2 (network_of mid).credit_list y o (link_at s k).credits;
      }
      ≡ record N {
        buffer = put3 N.buffer x p f.vc (N.buffer x p f.vc ++ f ∷ []);
        out = put2 N.out y o rest;
        credit_list = put2 N.credit_list y o (link_at s k).credits;
      }
      = ap (λ (n : Network). record n {
        out = put2 n.out y o rest;
        credit_list = put2 n.credit_list y o (link_at s k).credits;
      }) mid_is in
      let credits = put2_same N.credit_list y o (link_at s k).credits (sym (credits_there s y o net.framed fed.has)) in
      let same : record N {
        buffer = put3 N.buffer x p f.vc (N.buffer x p f.vc ++ f ∷ []);
        out = put2 N.out y o rest;
        credit_list = put2 N.credit_list y o (link_at s k).credits;
      }
      ≡ taken_from N x p y o (f ∷ rest)
      = λ t. record N {
        buffer = put3 N.buffer x p f.vc (N.buffer x p f.vc ++ f ∷ []);
        out = put2 N.out y o rest;
        credit_list = credits t;
      } in
      let to_taken : taken_from N x p y o (f ∷ rest) ≡ taken (shape s) N x p (Some y) =
      ap (λ (fs : List Flit). taken_from N x p y o fs) (sym out) in
      let to_after : taken (shape s) N x p (Some y) ≡ after (shape s) N (Take x p) =
      ap (λ (z : Option ℕ). taken (shape s) N x p z) (sym e) in
      (enabled, from_mid ∙ (linked ∙ (same ∙ (to_taken ∙ to_after))), link_framed mid k l mid_framed fed.bound refl)

  take_idle : (o : Option Flit) → slice_get (link_at s (links_before s.mesh y (opposite_of p))).flits 0 ≡ o →
      can_enter (router_at s x) p o ≡ false
      → Enabled (shape s) (network_of s) (Take x p) → ⊥
  unfolding net_shape
  take_idle None first can h =
      let fed = feeder s x p y net.framed e in
      let out : (network_of s).out y (opposite_of p) ≡ [] =
      out_there s y (opposite_of p) net.framed fed.has ∙
      none_of (link_at s (links_before s.mesh y (opposite_of p))).flits first in
      let front : FrontIs ((network_of s).out y (opposite_of p))
      (λ g. length ((network_of s).buffer x p g.vc) < s.depth) =
      subst (λ (z : Option ℕ). IsLinked z
      (λ y. FrontIs ((network_of s).out y (opposite_of p)) (λ g. length ((network_of s).buffer x p g.vc) < s.depth))) e
      h in
      subst (λ (fs : List Flit). FrontIs fs (λ g. length ((network_of s).buffer x p g.vc) < s.depth)) out front
  take_idle (Some f) first can h =
      let node = net.framed.each_node x x_in in
      let fed = feeder s x p y net.framed e in
      let k = links_before s.mesh y (opposite_of p) in
      let flits = first_of (link_at s k).flits f first in
      let place = front_place f (drop 1 (link_at s k).flits) flits in
      let out : (network_of s).out y (opposite_of p) ≡ f ∷ drop 1 (link_at s k).flits =
      out_there s y (opposite_of p) net.framed fed.has ∙ flits in
      let front : FrontIs ((network_of s).out y (opposite_of p))
      (λ g. length ((network_of s).buffer x p g.vc) < s.depth) =
      subst (λ (z : Option ℕ). IsLinked z
      (λ y. FrontIs ((network_of s).out y (opposite_of p)) (λ g. length ((network_of s).buffer x p g.vc) < s.depth))) e
      h in
      let theirs : length ((network_of s).buffer x p f.vc) < s.depth =
      subst (λ (fs : List Flit). FrontIs fs (λ g. length ((network_of s).buffer x p g.vc) < s.depth)) out front in
      let ours : length (input_at (router_at s x) p f.vc).buffer < s.depth =
      rw (buffer_there s x p f.vc place.0) at theirs in
      elim (below_cases (length (input_at (router_at s x) p f.vc).buffer) (router_at s x).depth) [
        | inl h ↦ let yes_room = h.0 in absurd (cc)
        | inr h ↦ let ge = h.1 in let d = node.same_depth in absurd (omega arith)
      ]

  take_at : IsThere (shape s) (Take x p) → (o : Option Flit) (b : Bool)
      → slice_get (link_at s (links_before s.mesh y (opposite_of p))).flits 0 ≡ o → can_enter (router_at s x) p o ≡ b
      → after_take s x p (links_before s.mesh y (opposite_of p)) o ≡ done_step s (Take x p) →
      Outcome own s x p (links_before s.mesh y (opposite_of p)) o b
  unfolding Outcome
  take_at there None true first can same = absurd (cc)
  take_at there None false first can same =
      (net, (there, take_idle None first can, refl, refl))
  take_at there (Some f) true first can same =
      let step = take_done f first can in
      let new = after_take s x p (links_before s.mesh y (opposite_of p)) (Some f) in
      step_made s new.nodes new.links (Take x p) net there (λ no. no) step same
  take_at there (Some f) false first can same =
      (net, (there, take_idle (Some f) first can, refl, refl))

  fits_at : (o : Option Flit)
      → slice_get (link_at s (links_before s.mesh y (opposite_of p))).flits 0 ≡ o → FrontFits (router_at s x) p o
  fits_at None first = tt
  fits_at (Some f) first =
      let k = links_before s.mesh y (opposite_of p) in
      let place = front_place f (drop 1 (link_at s k).flits) (first_of (link_at s k).flits f first) in
      (place.0.place, place.1)

take_by : (s : NetState) (x p : ℕ) → {own : ℕ → Bool} → IsWorkableBy own s → x < length s.nodes →
    IsThere (shape s) (Take x p) → (n : Option ℕ) → neighbour_of s.mesh x p ≡ n → IsSome n
    → after_take s x p (into_from s.mesh p n) (slice_get (link_at s (into_from s.mesh p n)).flits 0) ≡
    done_step s (Take x p)
    → Outcome own s x p (into_from s.mesh p n) (slice_get (link_at s (into_from s.mesh p n)).flits 0)
    (can_enter (router_at s x) p (slice_get (link_at s (into_from s.mesh p n)).flits 0))
take_by s x p net x_in there None e some same = absurd (cc)
take_by s x p net x_in there (Some y) e some same =
    take_at s x p y net x_in e there (slice_get (link_at s (links_before s.mesh y (opposite_of p))).flits 0)
    (can_enter (router_at s x) p (slice_get (link_at s (links_before s.mesh y (opposite_of p))).flits 0)) refl refl
    same

pub take_answers : (s : NetState) (x p : ℕ) → {own : ℕ → Bool} → IsWorkableBy own s → IsSome (neighbour_of s.mesh x p) →
    (done : Bool) (new : NetState) → done ≡ can_enter (router_at s x) p (front_into s x p)
    → new ≡ (if done then after_take s x p (link_into s x p) (front_into s x p) else s)
    → IsWorkableBy own new × Replies s (Take x p) (Ok (moved_of done)) new
unfolding net_shape Outcome
take_answers s x p net linked done new e after =
    let all = net.framed.all_nodes in
    let there = port_there s.mesh x p linked in
    let node_in = there.0 in
    rw after (rw e (take_by s x p net (omega arith) there (neighbour_of s.mesh x p) refl linked refl))

fits_by : (s : NetState) (x p : ℕ) → {own : ℕ → Bool} → IsWorkableBy own s → x < length s.nodes → (n : Option ℕ) →
    neighbour_of s.mesh x p ≡ n → IsSome n
    → FrontFits (router_at s x) p (slice_get (link_at s (into_from s.mesh p n)).flits 0)
fits_by s x p net x_in None e some = absurd (cc)
fits_by s x p net x_in (Some y) e some =
    fits_at s x p y net x_in e (slice_get (link_at s (links_before s.mesh y (opposite_of p))).flits 0) refl

pub front_fits : (s : NetState) (x p : ℕ) → {own : ℕ → Bool} → IsWorkableBy own s → IsSome (neighbour_of s.mesh x p) →
    FrontFits (router_at s x) p (front_into s x p)
front_fits s x p net linked =
    let all = net.framed.all_nodes in
    let node_in = of_node s.mesh x p linked in
    fits_by s x p net (omega arith) (neighbour_of s.mesh x p) refl linked
