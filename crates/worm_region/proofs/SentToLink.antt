-- A flit that is sent to a link is a change of the functions of places as the theory has it.
use Rattle.std.proofs.Common.{◌≡◌, ℕ, ◌+◌, ◌-◌, ◌*◌, ◌<◌, ◌≤◌, ◌==◌, true, false, cond, inl, inr, List, [], ◌∷◌, ◌++◌}
use Rattle.std.proofs.Common.{length, drop, Some, None, is_some, refl, arith, ap, sym, subst, ◌∙◌, Bool, if◌then◌else◌}
use Rattle.std.proofs.Math.ListN.{length-set}
use Rattle.worm_flit.specs.declared.Flit.{Flit}
use Rattle.worm_flit.specs.Kinds.{closes}
use Rattle.worm_flit.specs.Stamps.{with_channel}
use Rattle.worm_mesh.specs.Address.{has_neighbour, neighbour_of}
use Rattle.worm_mesh.specs.Links.{links_before}
use Rattle.worm_records.specs.declared.InRecord.{InRecord}
use Rattle.worm_records.specs.declared.InRecord.TheVariants.{Idle, Active}
use Rattle.worm_records.specs.declared.OutRecord.{OutRecord}
use Rattle.worm_router.specs.Router.{ChannelState, RouterState, IsPlace, width, terminal, input_at, output_at}
use Rattle.worm_router.specs.Router.{with_input, with_output, let_out, passed, credit_of, is_linked, owed_for}
use Rattle.worm_router.specs.Router.{after_leaving}
use Rattle.worm_theory.specs.Network.{Network, put2, put3}
use Rattle.worm_theory.specs.Steps.{sent_by}
use Rattle.worm_region.specs.Shape.{net_shape}
use Rattle.worm_region.specs.State.{NetState, IsNetPlace, shape, network_of, router_at}
use Rattle.worm_wires.specs.Links.{LinkView}
use Rattle.worm_region.specs.State.{link_at, with_link, with_router}
use Rattle.worm_region.specs.Workable.{IsWorkableBy, LeadsOn}
use Rattle.worm_region.proofs.NodeWritten.{put2_same, router_bridge, input_of-put, output_of-put}
use Rattle.worm_region.proofs.FrameKept.{router_framed}
use Rattle.worm_region.proofs.LinkWritten.{link_bridge, out_there, credits_there}
use Rattle.worm_theory.proofs.Places.{bool_cases}
use Rattle.worm_region.proofs.AsListed.{record_there, holder_there, owed_there, spent_there}

one_more : (a : ℕ) (linked : Bool) → a + (if linked then 1 else 0) ≡ cond linked (a + 1) a
one_more a true = refl
one_more a false = omega arith

-- the router's port faces a link exactly where its node has a neighbour
pub linked_is : (s : NetState) (x p : ℕ) → (router_at s x).mesh ≡ s.mesh → (router_at s x).node ≡ x
    → is_linked (router_at s x) p ≡ is_some (neighbour_of s.mesh x p)
linked_is s x p mesh node =
    ap (λ (m : List ℕ). is_some (neighbour_of m (router_at s x).node p)) mesh
    ∙ ap (λ (y : ℕ). is_some (neighbour_of s.mesh y p)) node

-- a credit is owed exactly at a port with a neighbour
pub owes : (s : NetState) (x p a : ℕ) → (router_at s x).mesh ≡ s.mesh → (router_at s x).node ≡ x
    → a + owed_for (router_at s x) p ≡ cond (is_some (neighbour_of s.mesh x p)) (a + 1) a
owes s x p a mesh node =
    one_more a (is_linked (router_at s x) p) ∙ ap (λ b. cond b (a + 1) a) (linked_is s x p mesh node)

pub spends : (s : NetState) (x o a : ℕ) → (router_at s x).mesh ≡ s.mesh →
    a - credit_of (router_at s x) o ≡ cond (o == 2 * length s.mesh) a (a - 1)
spends s x o a same =
    let e : (o == 2 * length (router_at s x).mesh) ≡ (o == 2 * length s.mesh) =
    ap (λ (m : List ℕ). o == 2 * length m) same in
    elim (bool_cases (o == 2 * length s.mesh)) [
      | inl here ↦ let ours : (o == 2 * length (router_at s x).mesh) ≡ true = e ∙ here in rw (ours, here) (omega arith)
      | inr away ↦ let ours : (o == 2 * length (router_at s x).mesh) ≡ false = e ∙ away in rw (ours, away) refl
    ]

-- an active channel's port is there, and so is the channel, which it holds
pub active_leads : (s : NetState) (x p v o c : ℕ) → {own : ℕ → Bool} → IsWorkableBy own s → x < length s.nodes →
    (network_of s).in_record x p v ≡ Active o c → LeadsOn (shape s) (network_of s) x p v (Active o c)
unfolding net_shape
active_leads s x p v o c net x_in e =
    let all = net.framed.all_nodes in
    subst (λ (r : InRecord). LeadsOn (shape s) (network_of s) x p v r) e (net.works.records x p v (omega arith))

-- the router's part of a Send
pub sent_bridge : (s : NetState) (x p v o c : ℕ) (f : Flit) (rest : List Flit) → {own : ℕ → Bool} →
    IsWorkableBy own s → IsNetPlace s x p v → o ≤ terminal (router_at s x) →
    c < width (router_at s x)
    → (input_at (router_at s x) p v).state ≡ Active o c → (input_at (router_at s x) p v).buffer ≡ f ∷ rest
    → network_of (with_router s x (after_leaving (router_at s x) p v (Some (o, with_channel f c)))) ≡
    record (network_of s) {
      buffer = put3 (network_of s).buffer x p v rest;
      last_out = put3 (network_of s).last_out x p v (Some (with_channel f c));
      in_record = put3 (network_of s).in_record x p v (cond (closes f.kind) Idle (Active o c));
      holder = put3 (network_of s).holder x o c (cond (closes f.kind) None (Some (p, v)));
      credits =
          put3 (network_of s).credits x o c
          (cond (o == 2 * length s.mesh) ((network_of s).credits x o c) ((network_of s).credits x o c - 1));
      owed =
          put3 (network_of s).owed x p v
          (cond (is_some (neighbour_of s.mesh x p)) ((network_of s).owed x p v + 1) ((network_of s).owed x p v));
    }
sent_bridge s x p v o c f rest net place o_in c_in e b =
    let N = network_of s in
    let r = router_at s x in
    let node = net.framed.each_node x place.node_in in
    let i = input_at r p v in
    let u = output_at r o c in
    let g = with_channel f c in
    let i2 : ChannelState = let_out i g (owed_for r p) in
    let u2 : OutRecord = passed u g (credit_of r o) in
    let r1 : RouterState = with_input r p v i2 in
    let out_place : IsPlace r1 o c = record { port_in = o_in; channel_in = c_in } in
    let held : u.holder ≡ Some (p, v) =
    sym (holder_there s x o c c_in) ∙
    (active_leads s x p v o c net place.node_in (record_there s x p v place ∙ e)).2 in
    let buffer : drop 1 i.buffer ≡ rest = ap (λ (fs : List Flit). drop 1 fs) b in
    let owed : i.owed + owed_for r p ≡ cond (is_some (neighbour_of s.mesh x p)) (N.owed x p v + 1) (N.owed x p v) =
    rw (owed_there s x p v place) (owes s x p i.owed node.same_mesh node.same_node) in
    let credits : u.credits - credit_of r o ≡ cond (o == 2 * length s.mesh) (N.credits x o c) (N.credits x o c - 1) =
    rw (spent_there s x o c c_in) (spends s x o u.credits node.same_mesh) in
    let same : record N {
      buffer = put3 N.buffer x p v (drop 1 i.buffer);
      in_record = put3 N.in_record x p v (cond (closes f.kind) Idle i.state);
      last_out = put3 N.last_out x p v (Some g);
      owed = put3 N.owed x p v (i.owed + owed_for r p);
      holder = put3 N.holder x o c (cond (closes f.kind) None u.holder);
      credits = put3 N.credits x o c (u.credits - credit_of r o);
    }
    ≡ record N {
      buffer = put3 N.buffer x p v rest;
      last_out = put3 N.last_out x p v (Some g);
      in_record = put3 N.in_record x p v (cond (closes f.kind) Idle (Active o c));
      holder = put3 N.holder x o c (cond (closes f.kind) None (Some (p, v)));
      credits = put3 N.credits x o c (cond (o == 2 * length s.mesh) (N.credits x o c) (N.credits x o c - 1));
      owed = put3 N.owed x p v (cond (is_some (neighbour_of s.mesh x p)) (N.owed x p v + 1) (N.owed x p v));
    }
    = λ t. record N {
      buffer = put3 N.buffer x p v (buffer t);
      in_record = put3 N.in_record x p v (cond (closes f.kind) Idle (e t));
      last_out = put3 N.last_out x p v (Some g);
      owed = put3 N.owed x p v (owed t);
      holder = put3 N.holder x o c (cond (closes f.kind) None (held t));
      credits = put3 N.credits x o c (credits t);
    } in
    router_bridge s x p v o c (with_output r1 o c u2) i2 u2 place.node_in
    (input_of-put r p v i2 place.place node.all_inputs)
    (output_of-put r1 o c u2 out_place node.all_outputs)
    ∙ same

-- Send to a link
pub sent_to_link : (s : NetState) (x p v o c : ℕ) (f : Flit) (rest : List Flit) → {own : ℕ → Bool} →
    IsWorkableBy own s → IsNetPlace s x p v → has_neighbour s.mesh x o ≡ true →
    o ≤ terminal (router_at s x) → c < width (router_at s x)
    → (input_at (router_at s x) p v).state ≡ Active o c → (input_at (router_at s x) p v).buffer ≡ f ∷ rest
    → network_of (with_link (with_router s x (after_leaving (router_at s x) p v (Some (o, with_channel f c))))
    (links_before s.mesh x o)
    (record (link_at s (links_before s.mesh x o)) {
      flits = (link_at s (links_before s.mesh x o)).flits ++ with_channel f c ∷ [];
    }))
    ≡ sent_by (shape s) (network_of s) x p v o c f rest
unfolding net_shape
sent_to_link s x p v o c f rest net place has o_in c_in e b =
    let N = network_of s in
    let k = links_before s.mesh x o in
    let r = after_leaving (router_at s x) p v (Some (o, with_channel f c)) in
    let mid = with_router s x r in
    let mid_framed =
    router_framed s x r.inputs r.outputs net.framed place.node_in (rw length-set refl) (rw length-set refl) in
    let l : LinkView = record (link_at s k) { flits = (link_at s k).flits ++ with_channel f c ∷ [] } in
    let from_mid = link_bridge mid x o l mid_framed has in
    let mid_is = sent_bridge s x p v o c f rest net place o_in c_in e b in
    let linked =
    ap (λ (n : Network). record n { out = put2 n.out x o l.flits; credit_list = put2 n.credit_list x o l.credits })
    mid_is in
    let credit_list = put2_same N.credit_list x o (link_at s k).credits (sym (credits_there s x o net.framed has)) in
    let flits : (link_at s k).flits ≡ N.out x o = sym (out_there s x o net.framed has) in
    let same : record N {
      buffer = put3 N.buffer x p v rest;
      last_out = put3 N.last_out x p v (Some (with_channel f c));
      in_record = put3 N.in_record x p v (cond (closes f.kind) Idle (Active o c));
      holder = put3 N.holder x o c (cond (closes f.kind) None (Some (p, v)));
      credits = put3 N.credits x o c (cond (o == 2 * length s.mesh) (N.credits x o c) (N.credits x o c - 1));
      owed = put3 N.owed x p v (cond (is_some (neighbour_of s.mesh x p)) (N.owed x p v + 1) (N.owed x p v));
      out = put2 N.out x o ((link_at s k).flits ++ with_channel f c ∷ []);
      credit_list = put2 N.credit_list x o (link_at s k).credits;
    } ≡ sent_by (shape s) N x p v o c f rest
    = λ t. record N {
      buffer = put3 N.buffer x p v rest;
      last_out = put3 N.last_out x p v (Some (with_channel f c));
      in_record = put3 N.in_record x p v (cond (closes f.kind) Idle (Active o c));
      holder = put3 N.holder x o c (cond (closes f.kind) None (Some (p, v)));
      credits = put3 N.credits x o c (cond (o == 2 * length s.mesh) (N.credits x o c) (N.credits x o c - 1));
      owed = put3 N.owed x p v (cond (is_some (neighbour_of s.mesh x p)) (N.owed x p v + 1) (N.owed x p v));
      out = put2 N.out x o (flits t ++ with_channel f c ∷ []);
      credit_list = credit_list t;
    } in
    from_mid ∙ (linked ∙ same)
