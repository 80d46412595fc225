-- A channel is granted just where the theory enables Grant, and that makes of the network what Grant does.
use Rattle.std.proofs.Common.{◌≡◌, ℕ, ◌*◌, ◌<◌, ◌≤◌, Bool, true, false, ◌&&◌, if◌then◌else◌, List, [], ◌∷◌, length}
use Rattle.std.proofs.Common.{sum, Ok, Option, Some, None, is_some, refl, arith, ap, sym, subst, ◌∙◌}
use Rattle.std.specs.Prelude.{is_none}
use Rattle.std.proofs.Math.ListN.{length-set}
use Rattle.worm_flit.specs.declared.Flit.{Flit}
use Rattle.worm_flit.specs.Channels.{owns}
use Rattle.worm_records.specs.declared.InRecord.{InRecord}
use Rattle.worm_records.specs.declared.InRecord.TheVariants.{Idle, Waiting, Active}
use Rattle.worm_records.specs.declared.OutRecord.{OutRecord}
use Rattle.worm_router.specs.Router.{ChannelState, RouterState, IsPlace, width, terminal, input_at, output_at}
use Rattle.worm_router.specs.Router.{with_input, in_state, granting, can_grant, after_granting, after_grant}
use Rattle.worm_theory.specs.Shape.{Owns}
use Rattle.worm_theory.specs.Network.{put3}
use Rattle.worm_theory.specs.Steps.{Grant, IsThere, Enabled, FrontIs, IsWaitingAt, after, granted}
use Rattle.worm_region.specs.Shape.{net_shape}
use Rattle.worm_region.specs.State.{NetState, IsFramed, IsNetPlace, shape, network_of, router_at, with_router}
use Rattle.worm_region.specs.Workable.{IsWorkableBy, LeadsOn}
use Rattle.worm_region.specs.Replies.{Replies}
use Rattle.worm_region.specs.Answers.{moved_of}
use Rattle.worm_region.proofs.NodeWritten.{put3_same, router_bridge, input_of-there, input_of-put, output_of-there}
use Rattle.worm_region.proofs.NodeWritten.{output_of-put, with_router_same}
use Rattle.worm_flit.proofs.Owners.{owner-from_owns, owns-from_owner}
use Rattle.worm_region.proofs.FrameKept.{step_made, router_framed}
use Rattle.worm_region.proofs.PlacesThere.{net_place, port_below}
use Rattle.worm_region.proofs.AsListed.{buffer_there, record_there, holder_there}

-- what waits, waits for a port that is there
waits_for : (s : NetState) (x p v o : ℕ) → {own : ℕ → Bool} → IsWorkableBy own s → x < length s.nodes →
    (network_of s).in_record x p v ≡ Waiting o → o ≤ 2 * length s.mesh
unfolding net_shape
waits_for s x p v o net x_in e =
    let all = net.framed.all_nodes in
    let leads : LeadsOn (shape s) (network_of s) x p v (Waiting o) =
    subst (λ (r : InRecord). LeadsOn (shape s) (network_of s) x p v r) e (net.works.records x p v (omega arith)) in
    port_below s x o net.framed leads

-- the record of an input channel and the holder of an output channel are changed
grant_bridge : (s : NetState) (x p v o k : ℕ) → IsFramed s → IsNetPlace s x p v → o ≤ terminal (router_at s x) →
    k < width (router_at s x)
    → network_of (with_router s x (after_granting (router_at s x) p v k (Some o))) ≡ record (network_of s) {
      in_record = put3 (network_of s).in_record x p v (Active o k);
      holder = put3 (network_of s).holder x o k (Some (p, v));
    }
unfolding network_of
grant_bridge s x p v o k framed place o_in k_in =
    let r = router_at s x in
    let c = input_at r p v in
    let node = framed.each_node x place.node_in in
    let there = input_of-there r p v place.place.channel_in in
    let out_there = output_of-there r o k k_in in
    let u : OutRecord = record (output_at r o k) { holder = Some (p, v) } in
    let r1 : RouterState = with_input r p v (in_state c (Active o k)) in
    let out_place : IsPlace r1 o k = record { port_in = o_in; channel_in = k_in } in
    let buffer = put3_same (network_of s).buffer x p v c.buffer (ap (λ (a : ChannelState). a.buffer) (sym there)) in
    let last_out =
    put3_same (network_of s).last_out x p v c.last_out (ap (λ (a : ChannelState). a.last_out) (sym there)) in
    let owed = put3_same (network_of s).owed x p v c.owed (ap (λ (a : ChannelState). a.owed) (sym there)) in
    let credits =
    put3_same (network_of s).credits x o k u.credits (ap (λ (a : OutRecord). a.credits) (sym out_there)) in
    let same : record (network_of s) {
      buffer = put3 (network_of s).buffer x p v c.buffer;
      in_record = put3 (network_of s).in_record x p v (Active o k);
      last_out = put3 (network_of s).last_out x p v c.last_out;
      owed = put3 (network_of s).owed x p v c.owed;
      holder = put3 (network_of s).holder x o k (Some (p, v));
      credits = put3 (network_of s).credits x o k u.credits;
    }
    ≡ record (network_of s) {
      in_record = put3 (network_of s).in_record x p v (Active o k);
      holder = put3 (network_of s).holder x o k (Some (p, v));
    }
    = λ t. record (network_of s) {
      buffer = buffer t;
      in_record = put3 (network_of s).in_record x p v (Active o k);
      last_out = last_out t;
      owed = owed t;
      holder = put3 (network_of s).holder x o k (Some (p, v));
      credits = credits t;
    } in
    router_bridge s x p v o k (after_granting r p v k (Some o)) (in_state c (Active o k)) u place.node_in
    (input_of-put r p v (in_state c (Active o k)) place.place node.all_inputs)
    (output_of-put r1 o k u out_place node.all_outputs)
    ∙ same

both_parts : (a b : Bool) → (a && b) ≡ true → (a ≡ true) × (b ≡ true)
both_parts true b e = (refl, e)
both_parts false b e = absurd (cc)

none_is : {A : Type 0} (o : Option A) → is_none o ≡ true → o ≡ None
none_is None e = refl
none_is (Some a) e = absurd (cc)

chosen : (t : Bool) (q o : ℕ) → (if t then Some q else None) ≡ Some o → (t ≡ true) × (q ≡ o)
chosen true q o e = (refl, cc)
chosen false q o e = let no : ◌≡◌ {A = Option ℕ} None (Some o) = e in absurd (cc)

grant_front : (s : NetState) (x p v k q : ℕ) (g : Flit) (rest : List Flit) → {own : ℕ → Bool} → IsWorkableBy own s →
    IsNetPlace s x p v → k < sum s.channels
    → (input_at (router_at s x) p v).state ≡ Waiting q → (input_at (router_at s x) p v).buffer ≡ g ∷ rest
    → (is_none (output_at (router_at s x) q k).holder && owns (router_at s x).channels g.lane.class k) ≡ true
    → Enabled (shape s) (network_of s) (Grant x p v k) ×
    (network_of (with_router s x (after_granting (router_at s x) p v k (Some q))) ≡
    after (shape s) (network_of s) (Grant x p v k))
unfolding net_shape
grant_front s x p v k q g rest net place k_in e f test =
    let node = net.framed.each_node x place.node_in in
    let record_is = record_there s x p v place ∙ e in
    let buffer_is = buffer_there s x p v place ∙ f in
    let q_in : q ≤ 2 * length (router_at s x).mesh =
    rw node.same_mesh (waits_for s x p v q net place.node_in record_is) in
    let k_within : k < width (router_at s x) = rw node.same_channels k_in in
    let both =
    both_parts (is_none (output_at (router_at s x) q k).holder) (owns (router_at s x).channels g.lane.class k) test in
    let free : (network_of s).holder x q k ≡ None =
    holder_there s x q k k_within ∙ none_is (output_at (router_at s x) q k).holder both.0 in
    let owned : owns s.channels g.lane.class k ≡ true =
    ap (λ (cs : List ℕ). owns cs g.lane.class k) (sym node.same_channels) ∙ both.1 in
    let owner : Owns (shape s) g.lane.class k = (k_in, owner-from_owns s.channels g.lane.class k owned) in
    let front : FrontIs ((network_of s).buffer x p v) (λ h. Owns (shape s) h.lane.class k) =
    subst (λ (fs : List Flit). FrontIs fs (λ h. Owns (shape s) h.lane.class k)) (sym buffer_is) owner in
    let enabled : Enabled (shape s) (network_of s) (Grant x p v k) =
    subst (λ (r : InRecord). IsWaitingAt r (λ o. ((network_of s).holder x o k ≡ None) ×
    FrontIs ((network_of s).buffer x p v) (λ h. Owns (shape s) h.lane.class k))) (sym record_is) (free, front) in (
      enabled,
      grant_bridge s x p v q k net.framed place q_in k_within ∙
          ap (λ (r : InRecord). granted (network_of s) x p v k r) (sym record_is),
    )

grant_done : (s : NetState) (x p v k o : ℕ) → {own : ℕ → Bool} → IsWorkableBy own s → IsNetPlace s x p v →
    k < sum s.channels → (st : InRecord) (fs : List Flit)
    → (input_at (router_at s x) p v).state ≡ st → (input_at (router_at s x) p v).buffer ≡ fs →
    granting (router_at s x) st fs k ≡ Some o
    → Enabled (shape s) (network_of s) (Grant x p v k) ×
    (network_of (with_router s x (after_granting (router_at s x) p v k (Some o))) ≡
    after (shape s) (network_of s) (Grant x p v k))
grant_done s x p v k o net place k_in Idle fs e f can = let no : ◌≡◌ {A = Option ℕ} None (Some o) = can in absurd (cc)
grant_done s x p v k o net place k_in (Active q d) fs e f can =
    let no : ◌≡◌ {A = Option ℕ} None (Some o) = can in absurd (cc)
grant_done s x p v k o net place k_in (Waiting q) [] e f can =
    let no : ◌≡◌ {A = Option ℕ} None (Some o) = can in absurd (cc)
grant_done s x p v k o net place k_in (Waiting q) (g ∷ rest) e f can =
    let pick =
    chosen (is_none (output_at (router_at s x) q k).holder && owns (router_at s x).channels g.lane.class k) q o can in
    subst (λ (o : ℕ). Enabled (shape s) (network_of s) (Grant x p v k) ×
    (network_of (with_router s x (after_granting (router_at s x) p v k (Some o))) ≡
    after (shape s) (network_of s) (Grant x p v k)))
    pick.1 (grant_front s x p v k q g rest net place k_in e f pick.0)

free_is : {A : Type 0} (o : Option A) → o ≡ None → is_none o ≡ true
free_is None e = refl
free_is (Some a) e = absurd (cc)

grant_idle : (s : NetState) (x p v k : ℕ) → IsFramed s → IsNetPlace s x p v → k < sum s.channels →
    (st : InRecord) (fs : List Flit)
    → (input_at (router_at s x) p v).state ≡ st → (input_at (router_at s x) p v).buffer ≡ fs →
    granting (router_at s x) st fs k ≡ None
    → Enabled (shape s) (network_of s) (Grant x p v k) → ⊥
unfolding net_shape
grant_idle s x p v k framed place k_in Idle fs e f can h =
    subst (λ (r : InRecord). IsWaitingAt r (λ o. ((network_of s).holder x o k ≡ None) ×
    FrontIs ((network_of s).buffer x p v) (λ h. Owns (shape s) h.lane.class k))) (record_there s x p v place ∙ e) h
grant_idle s x p v k framed place k_in (Active q d) fs e f can h =
    subst (λ (r : InRecord). IsWaitingAt r (λ o. ((network_of s).holder x o k ≡ None) ×
    FrontIs ((network_of s).buffer x p v) (λ h. Owns (shape s) h.lane.class k))) (record_there s x p v place ∙ e) h
grant_idle s x p v k framed place k_in (Waiting q) [] e f can h =
    let asked =
    subst (λ (r : InRecord). IsWaitingAt r (λ o. ((network_of s).holder x o k ≡ None) ×
    FrontIs ((network_of s).buffer x p v) (λ h. Owns (shape s) h.lane.class k))) (record_there s x p v place ∙ e) h in
    subst (λ (fs : List Flit). FrontIs fs (λ h. Owns (shape s) h.lane.class k)) (buffer_there s x p v place ∙
    f) asked.1
grant_idle s x p v k framed place k_in (Waiting q) (g ∷ rest) e f can h =
    let node = framed.each_node x place.node_in in
    let k_within : k < width (router_at s x) = rw node.same_channels k_in in
    let asked =
    subst (λ (r : InRecord). IsWaitingAt r (λ o. ((network_of s).holder x o k ≡ None) ×
    FrontIs ((network_of s).buffer x p v) (λ h. Owns (shape s) h.lane.class k))) (record_there s x p v place ∙ e) h in
    let owner : Owns (shape s) g.lane.class k =
    subst (λ (fs : List Flit). FrontIs fs (λ h. Owns (shape s) h.lane.class k)) (buffer_there s x p v place ∙
    f) asked.1 in
    let owned : owns (router_at s x).channels g.lane.class k ≡ true =
    ap (λ (cs : List ℕ). owns cs g.lane.class k) node.same_channels ∙
    owns-from_owner s.channels g.lane.class k k_in owner.1 in
    let free : is_none (output_at (router_at s x) q k).holder ≡ true =
    free_is _ (sym (holder_there s x q k k_within) ∙ asked.0) in
    let test : (is_none (output_at (router_at s x) q k).holder && owns (router_at s x).channels g.lane.class k) ≡
    true = rw (free, owned) refl in
    let some : (if is_none (output_at (router_at s x) q k).holder && owns
    (router_at s x).channels g.lane.class k then Some q else None) ≡ Some q = rw test refl in
    let none : (if is_none (output_at (router_at s x) q k).holder && owns
    (router_at s x).channels g.lane.class k then Some q else None) ≡ None = can in
    absurd (cc)

-- what a grant that is tried leaves and answers
grant_answers_by : (s : NetState) (x p v k : ℕ) → {own : ℕ → Bool} → IsWorkableBy own s →
    IsThere (shape s) (Grant x p v k) → (o : Option ℕ) → can_grant (router_at s x) p v k ≡ o
    → IsWorkableBy own (with_router s x (after_granting (router_at s x) p v k o)) ×
    Replies s (Grant x p v k) (Ok (moved_of (is_some o))) (with_router s x (after_granting (router_at s x) p v k o))
unfolding net_shape
grant_answers_by s x p v k net there (Some o) e =
    let place = net_place s x p v net.framed there.0 there.1 there.2 in
    let c = input_at (router_at s x) p v in
    let step = grant_done s x p v k o net place there.3 c.state c.buffer refl refl e in
    let r = after_granting (router_at s x) p v k (Some o) in
    let framed =
    router_framed s x r.inputs r.outputs net.framed place.node_in (rw length-set refl) (rw length-set refl) in
    step_made s (with_router s x r).nodes s.links (Grant x p v k) net there (λ no. no) (step.0, step.1, framed)
    (ap (λ (g : Option ℕ). with_router s x (after_granting (router_at s x) p v k g)) (sym e))
grant_answers_by s x p v k {own} net there None e =
    let place = net_place s x p v net.framed there.0 there.1 there.2 in
    let c = input_at (router_at s x) p v in
    let same = with_router_same s x place.node_in in (
      subst (IsWorkableBy own) (sym same) net,
      (there, grant_idle s x p v k net.framed place there.3 c.state c.buffer refl refl e, refl, same),
    )

pub grant_answers : (s : NetState) (x p v k : ℕ) → {own : ℕ → Bool} → IsWorkableBy own s →
    IsThere (shape s) (Grant x p v k)
    → IsWorkableBy own (with_router s x (after_grant (router_at s x) p v k)) ×
    Replies s (Grant x p v k) (Ok (moved_of (is_some (can_grant (router_at s x) p v k))))
    (with_router s x (after_grant (router_at s x) p v k))
grant_answers s x p v k net there = grant_answers_by s x p v k net there (can_grant (router_at s x) p v k) refl
