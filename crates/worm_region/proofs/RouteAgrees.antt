-- A channel is routed just where the theory enables Route, and that makes of the network what Route does.
use Rattle.std.proofs.Common.{◌≡◌, ℕ, Bool, true, false, ◌&&◌, if◌then◌else◌, List, [], ◌∷◌, Ok, refl, ap, sym, subst}
use Rattle.std.proofs.Common.{◌∙◌}
use Rattle.std.proofs.Math.ListN.{length-set}
use Rattle.worm_flit.specs.declared.Flit.{Flit}
use Rattle.worm_flit.specs.Kinds.{opens}
use Rattle.worm_records.specs.declared.InRecord.{InRecord}
use Rattle.worm_records.specs.declared.InRecord.TheVariants.{Idle, Waiting, Active}
use Rattle.worm_route.specs.Route.{port_of}
use Rattle.worm_router.specs.Router.{ChannelState, input_at, with_input, in_state, is_idle, opens_front, front_port}
use Rattle.worm_router.specs.Router.{can_route, after_route}
use Rattle.worm_theory.specs.Network.{put3}
use Rattle.worm_theory.specs.Steps.{Route, IsThere, Enabled, FrontIs, after, routed}
use Rattle.worm_region.specs.Shape.{net_shape}
use Rattle.worm_region.specs.State.{NetState, IsFramed, IsNetPlace, shape, network_of, router_at, with_router}
use Rattle.worm_region.specs.Workable.{IsWorkableBy}
use Rattle.worm_region.specs.Replies.{Replies}
use Rattle.worm_region.specs.Answers.{moved_of}
use Rattle.worm_region.proofs.NodeWritten.{put3_same, input_bridge, input_of-there}
use Rattle.worm_region.proofs.AsListed.{buffer_there, record_there}
use Rattle.worm_region.proofs.FrameKept.{step_made, router_framed}
use Rattle.worm_region.proofs.PlacesThere.{net_place}

-- only the record of an input channel is changed
pub state_bridge : (s : NetState) (x p v : ℕ) (st : InRecord) → IsFramed s → IsNetPlace s x p v
    → network_of (with_router s x (with_input (router_at s x) p v (in_state (input_at (router_at s x) p v) st))) ≡
    record (network_of s) { in_record = put3 (network_of s).in_record x p v st }
unfolding network_of
state_bridge s x p v st framed place =
    let c = input_at (router_at s x) p v in
    let there = input_of-there (router_at s x) p v place.place.channel_in in
    let buffer = put3_same (network_of s).buffer x p v c.buffer (ap (λ (a : ChannelState). a.buffer) (sym there)) in
    let last_out =
    put3_same (network_of s).last_out x p v c.last_out (ap (λ (a : ChannelState). a.last_out) (sym there)) in
    let owed = put3_same (network_of s).owed x p v c.owed (ap (λ (a : ChannelState). a.owed) (sym there)) in
    let same : record (network_of s) {
      buffer = put3 (network_of s).buffer x p v c.buffer;
      in_record = put3 (network_of s).in_record x p v st;
      last_out = put3 (network_of s).last_out x p v c.last_out;
      owed = put3 (network_of s).owed x p v c.owed;
    } ≡ record (network_of s) { in_record = put3 (network_of s).in_record x p v st }
    = λ t. record (network_of s) {
      buffer = buffer t;
      in_record = put3 (network_of s).in_record x p v st;
      last_out = last_out t;
      owed = owed t;
    } in
    input_bridge s x p v (in_state c st) place.node_in place.place (framed.each_node x place.node_in).all_inputs ∙ same

route_done : (s : NetState) (x p v : ℕ) → IsFramed s → IsNetPlace s x p v → (st : InRecord) (fs : List Flit)
    → (input_at (router_at s x) p v).state ≡ st → (input_at (router_at s x) p v).buffer ≡ fs →
    (is_idle st && opens_front fs) ≡ true
    → Enabled (shape s) (network_of s) (Route x p v) ×
    (network_of (with_router s x (with_input (router_at s x) p v
    (in_state (input_at (router_at s x) p v) (Waiting (front_port (router_at s x) fs))))) ≡
    after (shape s) (network_of s) (Route x p v))
unfolding net_shape
route_done s x p v framed place Idle [] e f can = absurd (cc)
route_done s x p v framed place Idle (g ∷ rest) e f can =
    let node = framed.each_node x place.node_in in
    let buffer = buffer_there s x p v place ∙ f in
    let front : FrontIs (g ∷ rest) (λ (h : Flit). opens h.kind ≡ true) = can in
    let port : port_of (router_at s x).mesh (router_at s x).node g.lane.dst ≡ port_of s.mesh x g.lane.dst =
    ap (λ (m : List ℕ). port_of m (router_at s x).node g.lane.dst) node.same_mesh ∙
    ap (λ (y : ℕ). port_of s.mesh y g.lane.dst) node.same_node in
    let same : record (network_of s) {
      in_record =
          put3 (network_of s).in_record x p v (Waiting (port_of (router_at s x).mesh (router_at s x).node g.lane.dst));
    } ≡ routed (shape s) (network_of s) x p v (g ∷ rest)
    = λ t. record (network_of s) { in_record = put3 (network_of s).in_record x p v (Waiting (port t)) } in
    let to : routed (shape s) (network_of s) x p v (g ∷ rest) ≡ after (shape s) (network_of s) (Route x p v) =
    ap (λ (fs : List Flit). routed (shape s) (network_of s) x p v fs) (sym buffer) in (
      (
        record_there s x p v place ∙ e,
        subst (λ (fs : List Flit). FrontIs fs (λ h. opens h.kind ≡ true)) (sym buffer) front,
      ),
      state_bridge s x p v (Waiting (front_port (router_at s x) (g ∷ rest))) framed place ∙ (same ∙ to),
    )
route_done s x p v framed place (Waiting o) fs e f can = absurd (cc)
route_done s x p v framed place (Active o c) fs e f can = absurd (cc)

route_idle : (s : NetState) (x p v : ℕ) → IsNetPlace s x p v → (st : InRecord) (fs : List Flit)
    → (input_at (router_at s x) p v).state ≡ st → (input_at (router_at s x) p v).buffer ≡ fs →
    (is_idle st && opens_front fs) ≡ false
    → Enabled (shape s) (network_of s) (Route x p v) → ⊥
route_idle s x p v place Idle [] e f can h =
    subst (λ (fs : List Flit). FrontIs fs (λ g. opens g.kind ≡ true)) (buffer_there s x p v place ∙ f) h.1
route_idle s x p v place Idle (g ∷ rest) e f can h =
    let opens : opens g.kind ≡ true =
    subst (λ (fs : List Flit). FrontIs fs (λ g. opens g.kind ≡ true)) (buffer_there s x p v place ∙ f) h.1 in
    absurd (cc)
route_idle s x p v place (Waiting o) fs e f can h =
    let there = record_there s x p v place in let idle = h.0 in absurd (cc)
route_idle s x p v place (Active o c) fs e f can h =
    let there = record_there s x p v place in let idle = h.0 in absurd (cc)

-- what a route that is tried leaves and answers
pub route_answers : (s : NetState) (x p v : ℕ) → {own : ℕ → Bool} → IsWorkableBy own s →
    IsThere (shape s) (Route x p v) → (done : Bool) → done ≡ can_route (router_at s x) p v
    → IsWorkableBy own (if done then with_router s x (after_route (router_at s x) p v) else s) ×
    Replies s (Route x p v) (Ok (moved_of done))
    (if done then with_router s x (after_route (router_at s x) p v) else s)
route_answers s x p v net there true e =
    let place = net_place s x p v net.framed there.0 there.1 there.2 in
    let c = input_at (router_at s x) p v in
    let step = route_done s x p v net.framed place c.state c.buffer refl refl (sym e) in
    let r = after_route (router_at s x) p v in
    let framed = router_framed s x r.inputs r.outputs net.framed place.node_in (rw length-set refl) refl in
    step_made s (with_router s x r).nodes s.links (Route x p v) net there (λ no. no) (step.0, step.1, framed) refl
route_answers s x p v net there false e =
    let place = net_place s x p v net.framed there.0 there.1 there.2 in
    let c = input_at (router_at s x) p v in
    (net, (there, route_idle s x p v place c.state c.buffer refl refl (sym e), refl, refl))
