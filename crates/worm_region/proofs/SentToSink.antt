-- A flit that is sent to the sink is a change of the functions of places as the theory has it.
use Rattle.std.proofs.Common.{◌≡◌, ℕ, ◌+◌, ◌-◌, ◌*◌, ◌<◌, ◌≤◌, ◌==◌, cond, Bool, true, List, [], ◌∷◌, ◌++◌, length}
use Rattle.std.proofs.Common.{drop, Some, None, is_some, refl, arith, ap, sym, ◌∙◌}
use Rattle.worm_flit.specs.declared.Flit.{Flit}
use Rattle.worm_flit.specs.Kinds.{closes}
use Rattle.worm_flit.specs.Stamps.{with_channel}
use Rattle.worm_mesh.specs.Address.{neighbour_of}
use Rattle.worm_records.specs.declared.InRecord.TheVariants.{Idle, Active}
use Rattle.worm_records.specs.declared.OutRecord.{OutRecord}
use Rattle.worm_router.specs.Router.{ChannelState, RouterState, IsPlace, width, terminal, input_at, output_at}
use Rattle.worm_router.specs.Router.{with_input, with_output, let_out, passed, credit_of, owed_for, after_leaving}
use Rattle.worm_term.specs.Source.{queue_at}
use Rattle.worm_theory.specs.Network.{put2, put3}
use Rattle.worm_theory.specs.Steps.{sent_by}
use Rattle.worm_region.specs.Shape.{net_shape}
use Rattle.worm_node.specs.declared.node.Node.{Node}
use Rattle.worm_region.specs.State.{NetState, IsNetPlace, shape, network_of, node_at, router_at}
use Rattle.worm_region.specs.State.{sink_at, source_at, with_node}
use Rattle.worm_region.specs.Workable.{IsWorkableBy}
use Rattle.worm_region.proofs.NodeWritten.{put2_same, node_bridge, itself2, input_of-put, output_of-put}
use Rattle.worm_region.proofs.AsListed.{record_there, holder_there, owed_there, spent_there}
use Rattle.worm_region.proofs.SentToLink.{active_leads, owes, spends}

pub delivered_bridge : (s : NetState) (x p v o c : ℕ) (f : Flit) (rest : List Flit) → {own : ℕ → Bool} →
    IsWorkableBy own s → IsNetPlace s x p v → o ≡ 2 * length s.mesh → c < width (router_at s x)
    → (input_at (router_at s x) p v).state ≡ Active o c → (input_at (router_at s x) p v).buffer ≡ f ∷ rest
    → network_of (with_node s x (record (node_at s x) {
      router = after_leaving (router_at s x) p v (Some (o, with_channel f c));
      sink = record (sink_at s x) { delivered = (sink_at s x).delivered ++ with_channel f c ∷ [] };
    })) ≡ sent_by (shape s) (network_of s) x p v o c f rest
unfolding network_of net_shape
delivered_bridge s x p v o c f rest net place at c_in e b =
    let N = network_of s in
    let r = router_at s x in
    let node = net.framed.each_node x place.node_in in
    let i = input_at r p v in
    let u = output_at r o c in
    let g = with_channel f c in
    let i2 : ChannelState = let_out i g (owed_for r p) in
    let u2 : OutRecord = passed u g (credit_of r o) in
    let r1 : RouterState = with_input r p v i2 in
    let q = queue_at (source_at s x) 0 in
    let n : Node =
    record (node_at s x) {
      router = with_output r1 o c u2;
      sink = record (sink_at s x) { delivered = (sink_at s x).delivered ++ g ∷ [] };
    } in
    let o_in : o ≤ terminal r = rw node.same_mesh (omega arith) in
    let out_place : IsPlace r1 o c = record { port_in = o_in; channel_in = c_in } in
    let held : u.holder ≡ Some (p, v) =
    sym (holder_there s x o c c_in) ∙
    (active_leads s x p v o c net place.node_in (record_there s x p v place ∙ e)).2 in
    let buffer : drop 1 i.buffer ≡ rest = ap (λ (fs : List Flit). drop 1 fs) b in
    let owed : i.owed + owed_for r p ≡ cond (is_some (neighbour_of s.mesh x p)) (N.owed x p v + 1) (N.owed x p v) =
    rw (owed_there s x p v place) (owes s x p i.owed node.same_mesh node.same_node) in
    let credits : u.credits - credit_of r o ≡ cond (o == 2 * length s.mesh) (N.credits x o c) (N.credits x o c - 1) =
    rw (spent_there s x o c c_in) (spends s x o u.credits node.same_mesh) in
    let injected = put2_same N.injected x 0 q.injected refl in
    let unfed = put2_same N.unfed x 0 (drop q.fed q.injected) refl in
    let itself : (2 * length s.mesh == 2 * length s.mesh) ≡ true = grind arith in
    let had : (sink_at s x).delivered ≡ N.out x (2 * length s.mesh) = rw itself refl in
    let same : record N {
      buffer = put3 N.buffer x p v (drop 1 i.buffer);
      in_record = put3 N.in_record x p v (cond (closes f.kind) Idle i.state);
      last_out = put3 N.last_out x p v (Some g);
      owed = put3 N.owed x p v (i.owed + owed_for r p);
      holder = put3 N.holder x o c (cond (closes f.kind) None u.holder);
      credits = put3 N.credits x o c (u.credits - credit_of r o);
      out = put2 N.out x (2 * length s.mesh) ((sink_at s x).delivered ++ g ∷ []);
      injected = put2 N.injected x 0 q.injected;
      unfed = put2 N.unfed x 0 (drop q.fed q.injected);
    } ≡ record N {
      buffer = put3 N.buffer x p v rest;
      in_record = put3 N.in_record x p v (cond (closes f.kind) Idle (Active o c));
      last_out = put3 N.last_out x p v (Some g);
      owed = put3 N.owed x p v (cond (is_some (neighbour_of s.mesh x p)) (N.owed x p v + 1) (N.owed x p v));
      holder = put3 N.holder x o c (cond (closes f.kind) None (Some (p, v)));
      credits = put3 N.credits x o c (cond (o == 2 * length s.mesh) (N.credits x o c) (N.credits x o c - 1));
      out = put2 N.out x (2 * length s.mesh) (N.out x (2 * length s.mesh) ++ g ∷ []);
    } = λ t. record N {
      buffer = put3 N.buffer x p v (buffer t);
      in_record = put3 N.in_record x p v (cond (closes f.kind) Idle (e t));
      last_out = put3 N.last_out x p v (Some g);
      owed = put3 N.owed x p v (owed t);
      holder = put3 N.holder x o c (cond (closes f.kind) None (held t));
      credits = put3 N.credits x o c (credits t);
      out = put2 N.out x (2 * length s.mesh) (had t ++ g ∷ []);
      injected = injected t;
      unfed = unfed t;
    } in
    let port_is : record N {
      buffer = put3 N.buffer x p v rest;
      in_record = put3 N.in_record x p v (cond (closes f.kind) Idle (Active o c));
      last_out = put3 N.last_out x p v (Some g);
      owed = put3 N.owed x p v (cond (is_some (neighbour_of s.mesh x p)) (N.owed x p v + 1) (N.owed x p v));
      holder = put3 N.holder x o c (cond (closes f.kind) None (Some (p, v)));
      credits = put3 N.credits x o c (cond (o == 2 * length s.mesh) (N.credits x o c) (N.credits x o c - 1));
      out = put2 N.out x (2 * length s.mesh) (N.out x (2 * length s.mesh) ++ g ∷ []);
    } ≡ sent_by (net_shape s.mesh s.channels s.depth) N x p v o c f rest
    = let back = sym at in λ t. record N {
      buffer = put3 N.buffer x p v rest;
      in_record = put3 N.in_record x p v (cond (closes f.kind) Idle (Active o c));
      last_out = put3 N.last_out x p v (Some g);
      owed = put3 N.owed x p v (cond (is_some (neighbour_of s.mesh x p)) (N.owed x p v + 1) (N.owed x p v));
      holder = put3 N.holder x o c (cond (closes f.kind) None (Some (p, v)));
      credits = put3 N.credits x o c (cond (o == 2 * length s.mesh) (N.credits x o c) (N.credits x o c - 1));
      out = put2 N.out x (back t) (N.out x (back t) ++ g ∷ []);
    } in
    node_bridge s x p v o c 0 n i2 u2 q place.node_in
    (input_of-put r p v i2 place.place node.all_inputs)
    (output_of-put r1 o c u2 out_place node.all_outputs)
    (itself2 (queue_at (source_at s x)) 0)
    ∙ (same ∙ port_is)
