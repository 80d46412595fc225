-- A node gives a credit just where the theory enables GiveCredit, and that makes of the network what GiveCredit does.
use Rattle.std.proofs.Common.{◌≡◌, ℕ, ◌-◌, ◌<◌, ◌≤◌, ◌==◌, Bool, true, false, if◌then◌else◌, inl, inr, List}
use Rattle.std.proofs.Common.{[], ◌∷◌, ◌++◌, length, sum, Ok, Option, Some, None, refl, arith, ap, sym, ◌∙◌}
use Rattle.std.specs.Prelude.{All, IsSome}
use Rattle.std.specs.List.{count_by}
use Rattle.std.proofs.Math.ListN.{length-set}
use Rattle.worm_mesh.specs.Address.{neighbour_of, opposite_of}
use Rattle.worm_mesh.specs.Links.{links_before}
use Rattle.worm_router.specs.Router.{ChannelState, input_at, after_gave}
use Rattle.worm_theory.specs.Network.{Network, put2, put3}
use Rattle.worm_theory.specs.Steps.{GiveCredit, IsThere, Enabled, after, gave, gave_to}
use Rattle.worm_region.specs.Shape.{net_shape}
use Rattle.worm_region.specs.State.{NetState, IsFramed, IsNetPlace, shape, network_of, router_at, with_router}
use Rattle.worm_wires.specs.Links.{LinkView}
use Rattle.worm_region.specs.State.{link_at}
use Rattle.worm_region.specs.Workable.{EndsWithin, IsWorkableBy}
use Rattle.worm_region.specs.Replies.{Replies}
use Rattle.worm_region.specs.Answers.{moved_of}
use Rattle.worm_region.specs.Moves.{done_step, link_into, can_give, after_giving}
use Rattle.worm_wires.specs.Wiring.{into_from}
use Rattle.worm_region.proofs.NodeWritten.{put2_same, put3_same, input_bridge, input_of-there, below_cases}
use Rattle.worm_region.proofs.LinkWritten.{link_bridge, link_framed, out_there, credits_there}
use Rattle.worm_region.proofs.AsListed.{owed_there}
use Rattle.worm_region.proofs.Room.{bounded_less, credits_counted}
use Rattle.worm_region.proofs.FrameKept.{step_made, router_framed, framed_mesh}
use Rattle.worm_region.proofs.PlacesThere.{net_place}
use Rattle.worm_region.proofs.LinksThere.{feeder}
use Rattle.worm_region.proofs.TurnInParts.{owing}

-- only what an input channel owes is changed
pub owed_bridge : (s : NetState) (x p v : ℕ) → IsFramed s → IsNetPlace s x p v
    → network_of (with_router s x (after_gave (router_at s x) p v)) ≡
    record (network_of s) { owed = put3 (network_of s).owed x p v ((network_of s).owed x p v - 1) }
unfolding network_of
owed_bridge s x p v framed place =
    let N = network_of s in
    let c = input_at (router_at s x) p v in
    let there = input_of-there (router_at s x) p v place.place.channel_in in
    let buffer = put3_same N.buffer x p v c.buffer (ap (λ (a : ChannelState). a.buffer) (sym there)) in
    let state = put3_same N.in_record x p v c.state (ap (λ (a : ChannelState). a.state) (sym there)) in
    let last_out = put3_same N.last_out x p v c.last_out (ap (λ (a : ChannelState). a.last_out) (sym there)) in
    let less : c.owed - 1 ≡ N.owed x p v - 1 = ap (λ (a : ChannelState). a.owed - 1) (sym there) in
    let same : record N {
      buffer =
          put3 N.buffer x p v c.buffer;
      in_record = put3 N.in_record x p v c.state;
      last_out = put3 N.last_out x p v c.last_out;
      owed = put3 N.owed x p v (c.owed - 1);
    }
    ≡ record N { owed = put3 N.owed x p v (N.owed x p v - 1) }
    = λ t. record N {
      buffer =
          buffer t;
      in_record = state t;
      last_out = last_out t;
      owed = put3 N.owed x p v (less t);
    } in
    input_bridge s x p v (record c { owed = c.owed - 1 }) place.node_in place.place
    (framed.each_node x place.node_in).all_inputs ∙ same

-- a link has room for a credit that is owed
credit_room : (s : NetState) (x p v y : ℕ) → {own : ℕ → Bool} → IsWorkableBy own s → (own y ≡ true) × (own x ≡ true) →
    IsNetPlace s x p v → neighbour_of s.mesh x p ≡ Some y → v < sum s.channels
    → 0 < (input_at (router_at s x) p v).owed →
    length (link_at s (links_before s.mesh y (opposite_of p))).credits <
    (link_at s (links_before s.mesh y (opposite_of p))).room
unfolding net_shape
credit_room s x p v y net inner place e v_in owes =
    let N = network_of s in
    let n = sum s.channels in
    let o = opposite_of p in
    let fed = feeder s x p y net.framed e in
    let mesh = framed_mesh s net.framed in
    let back : neighbour_of s.mesh y o ≡ Some x = mesh.link_back x p y e in
    let twice : opposite_of o ≡ p = mesh.opposite_twice x p y e in
    let all : All (λ c. c < n) (N.credit_list y o) = net.works.entries y o in
    let each : (w : ℕ) → w < n → count_by (λ k. w == k) (N.credit_list y o) ≤ s.depth = λ w w_in.
    let total = net.works.credits y o x w w_in back inner.0 inner.1 in omega arith in
    let owed : 0 < N.owed x p v = rw (owed_there s x p v place) owes in
    let owed_here : 0 < N.owed x (opposite_of o) v = rw twice owed in
    let less : count_by (λ k. v == k) (N.credit_list y o) < s.depth =
    let total = net.works.credits y o x v v_in back inner.0 inner.1 in omega arith in
    let count = credits_counted n (N.credit_list y o) all in
    let few = bounded_less (λ w. count_by (λ k. w == k) (N.credit_list y o)) n s.depth v each v_in less in
    let room = net.framed.rooms (links_before s.mesh y o) fed.bound in
    let list = ap (λ (cs : List ℕ). length cs) (credits_there s y o net.framed fed.has) in
    omega arith

give_done : (s : NetState) (x p v y : ℕ) → {own : ℕ → Bool} → IsWorkableBy own s → IsNetPlace s x p v →
    neighbour_of s.mesh x p ≡ Some y → can_give s x p v ≡ true
    → Enabled (shape s) (network_of s) (GiveCredit x p v)
    × (network_of (after_giving s x p v (links_before s.mesh y (opposite_of p))) ≡
    after (shape s) (network_of s) (GiveCredit x p v))
    × IsFramed (after_giving s x p v (links_before s.mesh y (opposite_of p)))
unfolding net_shape
give_done s x p v y net place e can =
    let k = links_before s.mesh y (opposite_of p) in
    let o = opposite_of p in
    let N = network_of s in
    let fed = feeder s x p y net.framed e in
    let owes : 0 < (input_at (router_at s x) p v).owed =
    elim (below_cases 0 (input_at (router_at s x) p v).owed) [
      | inl h ↦ h.1
      | inr h ↦ let no = h.0 in absurd (cc)
    ] in
    let enabled : 0 < N.owed x p v = rw (owed_there s x p v place) owes in
    let r = after_gave (router_at s x) p v in
    let mid = with_router s x r in
    let mid_framed = router_framed s x r.inputs r.outputs net.framed place.node_in (rw length-set refl) refl in
    let l : LinkView = record (link_at s k) { credits = (link_at s k).credits ++ v ∷ [] } in
    let from_mid = link_bridge mid y o l mid_framed fed.has in
    let mid_is = owed_bridge s x p v net.framed place in
    let linked =
    ap (λ (n : Network). record n {
      out =
          put2 n.out y o (link_at s k).flits;
      credit_list = put2 n.credit_list y o ((link_at s k).credits ++ v ∷ []);
    }) mid_is in
    let flits = put2_same N.out y o (link_at s k).flits (sym (out_there s y o net.framed fed.has)) in
    let list : (link_at s k).credits ≡ N.credit_list y o = sym (credits_there s y o net.framed fed.has) in
    let same : record N {
      owed =
          put3 N.owed x p v (N.owed x p v - 1);
      out = put2 N.out y o (link_at s k).flits;
      credit_list = put2 N.credit_list y o ((link_at s k).credits ++ v ∷ []);
    }
    ≡ gave_to N x p v y o
    = λ t. record N {
      owed =
          put3 N.owed x p v (N.owed x p v - 1);
      out = flits t;
      credit_list = put2 N.credit_list y o (list t ++ v ∷ []);
    } in
    let to_after : gave (shape s) N x p v (Some y) ≡ after (shape s) N (GiveCredit x p v) =
    ap (λ (z : Option ℕ). gave (shape s) N x p v z) (sym e) in
    (enabled, from_mid ∙ (linked ∙ (same ∙ to_after)), link_framed mid k l mid_framed fed.bound refl)

give_idle : (s : NetState) (x p v : ℕ) → IsNetPlace s x p v → can_give s x p v ≡ false →
    Enabled (shape s) (network_of s) (GiveCredit x p v) → ⊥
give_idle s x p v place can h =
    let there = owed_there s x p v place in
    elim (below_cases 0 (input_at (router_at s x) p v).owed) [
      | inl some ↦ let no = some.0 in absurd (cc)
      | inr none ↦ let zero_owed = none.1 in let owing : 0 < (network_of s).owed x p v = h in absurd (omega arith)
    ]

Outcome : (ℕ → Bool) → NetState → ℕ → ℕ → ℕ → ℕ → Bool → Type 0
Outcome own s x p v k b =
    IsWorkableBy own (if b then after_giving s x p v k else s) ×
    Replies s (GiveCredit x p v) (Ok (moved_of b)) (if b then after_giving s x p v k else s)

give_at : (s : NetState) (x p v y : ℕ) → {own : ℕ → Bool} → IsWorkableBy own s → IsNetPlace s x p v →
    IsThere (shape s) (GiveCredit x p v) → neighbour_of s.mesh x p ≡ Some y → (b : Bool)
    → can_give s x p v ≡ b → after_giving s x p v (links_before s.mesh y (opposite_of p)) ≡
    done_step s (GiveCredit x p v) → Outcome own s x p v (links_before s.mesh y (opposite_of p)) b
unfolding Outcome
give_at s x p v y net place there e true can same =
    let step = give_done s x p v y net place e can in
    let new = after_giving s x p v (links_before s.mesh y (opposite_of p)) in
    step_made s new.nodes new.links (GiveCredit x p v) net there (λ no. no) step same
give_at s x p v y net place there e false can same = (net, (there, give_idle s x p v place can, refl, refl))

give_by : (s : NetState) (x p v : ℕ) → {own : ℕ → Bool} → IsWorkableBy own s → IsNetPlace s x p v →
    IsThere (shape s) (GiveCredit x p v) → (n : Option ℕ) → neighbour_of s.mesh x p ≡ n → IsSome n
    → after_giving s x p v (into_from s.mesh p n) ≡ done_step s (GiveCredit x p v) →
    Outcome own s x p v (into_from s.mesh p n) (can_give s x p v)
give_by s x p v net place there None e some same = absurd (cc)
give_by s x p v net place there (Some y) e some same = give_at s x p v y net place there e (can_give s x p v) refl same

pub give_answers : (s : NetState) (x p v : ℕ) → {own : ℕ → Bool} → IsWorkableBy own s →
    IsThere (shape s) (GiveCredit x p v) → (done : Bool) → done ≡ can_give s x p v
    → IsWorkableBy own (if done then after_giving s x p v (link_into s x p) else s) ×
    Replies s (GiveCredit x p v) (Ok (moved_of done)) (if done then after_giving s x p v (link_into s x p) else s)
unfolding net_shape Outcome
give_answers s x p v net there done e =
    let place = net_place s x p v net.framed there.0 (inr there.1) there.2 in
    rw e (give_by s x p v net place there (neighbour_of s.mesh x p) refl there.1 refl)

room_by : (s : NetState) (x p v : ℕ) → {own : ℕ → Bool} → IsWorkableBy own s → EndsWithin (shape s) own x p →
    IsNetPlace s x p v → v < sum s.channels
    → (n : Option ℕ) → neighbour_of s.mesh x p ≡ n → IsSome n → 0 < (input_at (router_at s x) p v).owed →
    length (link_at s (into_from s.mesh p n)).credits < (link_at s (into_from s.mesh p n)).room
unfolding net_shape
room_by s x p v net inner place v_in None e some = absurd (cc)
room_by s x p v net inner place v_in (Some y) e some =
    let ends = inner y e in
    credit_room s x p v y net (ends.1, ends.0) place e v_in

pub give_room : (s : NetState) (x p v : ℕ) → {own : ℕ → Bool} → IsWorkableBy own s → EndsWithin (shape s) own x p →
    IsThere (shape s) (GiveCredit x p v)
    → 0 < (input_at (router_at s x) p v).owed →
    length (link_at s (link_into s x p)).credits < (link_at s (link_into s x p)).room
unfolding net_shape
give_room s x p v net inner there =
    let place = net_place s x p v net.framed there.0 (inr there.1) there.2 in
    room_by s x p v net inner place there.2 (neighbour_of s.mesh x p) refl there.1

-- a credit that is owed is given
pub gave_owed : (s : NetState) (x p v : ℕ) → {own : ℕ → Bool} → IsWorkableBy own s →
    IsThere (shape s) (GiveCredit x p v) → 0 < (input_at (router_at s x) p v).owed
    → IsWorkableBy own (after_giving s x p v (link_into s x p)) ×
    Replies s (GiveCredit x p v) (Ok (moved_of true)) (after_giving s x p v (link_into s x p))
gave_owed s x p v net there owed =
    let can : true ≡ can_give s x p v = sym (owing (input_at (router_at s x) p v).owed owed) in
    give_answers s x p v net there true can

-- and where none is owed, none can be
pub gave_none : (s : NetState) (x p v : ℕ) → {own : ℕ → Bool} → IsWorkableBy own s →
    IsThere (shape s) (GiveCredit x p v) → can_give s x p v ≡ false →
    Replies s (GiveCredit x p v) (Ok (moved_of false)) s
gave_none s x p v net there none = (give_answers s x p v net there false (sym none)).1
