-- A flit is sent just where the theory enables Send and its way is free, and that makes of the network what Send does.
use Rattle.std.proofs.Common.{◌≡◌, ℕ, ◌*◌, ◌<◌, ◌≤◌, ◌==◌, nat_lt, Bool, true, false, ◌&&◌, ◌||◌, not, is_some}
use Rattle.std.proofs.Common.{if◌then◌else◌, ◌⊎◌, inl, inr, List, [], ◌∷◌, ◌++◌, length, sum, Ok, Err, Option}
use Rattle.std.proofs.Common.{Some, None, refl, arith, ap, sym, subst, ◌∙◌}
use Rattle.std.specs.Prelude.{IfSome, IsSome, Result}
use Rattle.std.proofs.Math.ListN.{length-set}
use Rattle.worm_flit.specs.declared.Flit.{Flit}
use Rattle.worm_flit.specs.Stamps.{with_channel}
use Rattle.worm_mesh.specs.Address.{neighbour_of, node_count}
use Rattle.worm_records.specs.declared.InRecord.{InRecord}
use Rattle.worm_records.specs.declared.InRecord.TheVariants.{Idle, Waiting, Active}
use Rattle.worm_router.specs.Router.{width, terminal, input_at, is_linked, output_at, leaving, leaving_by}
use Rattle.worm_router.specs.Router.{after_leaving}
use Rattle.worm_theory.specs.Network.{Network}
use Rattle.worm_theory.specs.Steps.{Step, Send, IsPort, IsThere, IsActiveAt, MaySend, Enabled, after, sent, sent_by}
use Rattle.worm_theory.proofs.Places.{bool_cases}
use Rattle.worm_region.specs.Shape.{net_shape}
use Rattle.worm_region.specs.declared.step.Moved.{Moved}
use Rattle.worm_region.specs.declared.step.Moved.TheVariants.{Done, Idle as StayedIdle}
use Rattle.worm_region.specs.declared.fault.StepFault.{StepFault}
use Rattle.worm_region.specs.declared.fault.StepFault.TheVariants.{NoSuchPlace, Refused, NoMemory}
use Rattle.worm_region.specs.State.{NetState, IsFramed, IsNetPlace, IsSameConfig, shape, network_of, node_at, router_at}
use Rattle.worm_region.specs.State.{sink_at, with_node, with_router, with_link, link_at}
use Rattle.worm_region.specs.Workable.{EndsWithin, IsWorkableBy}
use Rattle.worm_region.specs.Replies.{Hindered, IsMade, Replies}
use Rattle.worm_region.specs.Answers.{Grows}
use Rattle.worm_region.specs.Moves.{done_step, link_out, after_ready, after_sending, HasWay, LeavesByLink, Sends}
use Rattle.worm_region.proofs.LinkWritten.{link_framed, below_not_same}
use Rattle.worm_region.proofs.Room.{link_room}
use Rattle.worm_region.proofs.AsListed.{buffer_there, record_there, owed_there, spent_there}
use Rattle.worm_region.proofs.FrameKept.{kept, node_framed, node_of, router_framed}
use Rattle.worm_region.proofs.PlacesThere.{net_place}
use Rattle.worm_region.proofs.LinksThere.{leader}
use Rattle.worm_region.proofs.SentToLink.{active_leads, linked_is, sent_to_link}
use Rattle.worm_region.proofs.SentToSink.{delivered_bridge}

-- where the front of an active channel goes: into the sink, or over a link
pub data Way (s : NetState) (x o : ℕ) : Type 0 where
  home : o ≡ 2 * length s.mesh → Way s x o
  over : (y : ℕ) → neighbour_of s.mesh x o ≡ Some y → Way s x o

pub record Going (s : NetState) (x o c : ℕ) : Type 0 where
  pub channel : c < sum s.channels
  pub way : Way s x o

way_over : (s : NetState) (x o : ℕ) (n : Option ℕ) → neighbour_of s.mesh x o ≡ n → IsSome n → Way s x o
way_over s x o None e some = absurd (cc)
way_over s x o (Some y) e some = over y e

going : (s : NetState) (x p v o c : ℕ) → {own : ℕ → Bool} → IsWorkableBy own s → x < length s.nodes →
    (network_of s).in_record x p v ≡ Active o c → Going s x o c
unfolding net_shape
going s x p v o c net x_in e =
    let leads = active_leads s x p v o c net x_in e in
    record {
      channel = leads.1;
      way = elim leads.0 [
        | inl at ↦ home at
        | inr linked ↦ way_over s x o (neighbour_of s.mesh x o) refl linked
      ];
    }

-- the tests of two of four
both_of : (a b c d : Bool) → ((a || b) && (c || d)) ≡ true → ((a ≡ true) ⊎ (b ≡ true)) × ((c ≡ true) ⊎ (d ≡ true))
both_of true b true d e = (inl refl, inl refl)
both_of true b false d e = (inl refl, inr e)
both_of false true true d e = (inr refl, inl refl)
both_of false true false d e = (inr refl, inr e)
both_of false false c d e = absurd (cc)

of_both : (a b c d : Bool) → (a ≡ true) ⊎ (b ≡ true) → (c ≡ true) ⊎ (d ≡ true) → ((a || b) && (c || d)) ≡ true
of_both true b true d h k = refl
of_both true b false d h (inl off) = absurd (cc)
of_both true b false d h (inr e) = e
of_both false b true d (inl off) k = absurd (cc)
of_both false b true d (inr e) k = rw e refl
of_both false b false d (inl off) k = absurd (cc)
of_both false b false d (inr e) (inl off) = absurd (cc)
of_both false b false d (inr e) (inr g) = rw (e, g) refl

-- the step is there and enabled, and these lists stand for what it makes
pub record Stands (old : NetState) (step : Step) (new : NetState) : Type 0 where
  pub there : IsThere (shape old) step
  pub enabled : Enabled (shape old) (network_of old) step
  pub after_it : network_of new ≡ after (shape old) (network_of old) step
  pub config : IsSameConfig old new
  pub framed : IsFramed new

-- the router's test of an active channel with this front
abbrev pub may_leave : NetState → ℕ → ℕ → ℕ → ℕ → ℕ → Bool
may_leave s x p v o c =
    (o == terminal (router_at s x) || nat_lt 0 (output_at (router_at s x) o c).credits) &&
    (not (is_linked (router_at s x) p) || nat_lt (input_at (router_at s x) p v).owed (router_at s x).depth)

less_true : (a b : ℕ) → nat_lt a b ≡ true → a < b
less_true a b e = grind arith

less_test : (a b : ℕ) → a < b → nat_lt a b ≡ true
less_test a b h = grind arith

same_true : (a b : ℕ) → (a == b) ≡ true → a ≡ b
same_true a b e = grind arith

same_test : (a b : ℕ) → a ≡ b → (a == b) ≡ true
same_test a b h = grind arith

module _ (s : NetState) (x p v o c : ℕ) (f : Flit) (rest : List Flit) {own : ℕ → Bool} (net : IsWorkableBy own s)
    (place : IsNetPlace s x p v) (x_in : x < node_count s.mesh) (port : IsPort (shape s) x p)
    (e : (input_at (router_at s x) p v).state ≡ Active o c)
    (b : (input_at (router_at s x) p v).buffer ≡ f ∷ rest) where
  abbrev N : Network
  N = network_of s

  pub record_is : N.in_record x p v ≡ Active o c
  record_is = record_there s x p v place ∙ e

  buffer_is : N.buffer x p v ≡ f ∷ rest
  buffer_is = buffer_there s x p v place ∙ b

  goes : Going s x o c
  goes = going s x p v o c net place.node_in record_is

  pub c_within : c < width (router_at s x)
  c_within = let node = net.framed.each_node x place.node_in in rw node.same_channels goes.channel

  terminal_is : terminal (router_at s x) ≡ 2 * length s.mesh
  terminal_is = let node = net.framed.each_node x place.node_in in ap (λ (m : List ℕ). 2 * length m) node.same_mesh

  -- what the test says in the theory
  pub may_send : may_leave s x p v o c ≡ true → MaySend (shape s) N x p v o c
  unfolding net_shape
  may_send test =
      let node = net.framed.each_node x place.node_in in
      let parts =
      both_of (o == terminal (router_at s x)) (nat_lt 0 (output_at (router_at s x) o c).credits)
      (not (is_linked (router_at s x) p)) (nat_lt (input_at (router_at s x) p v).owed (router_at s x).depth) test in
      let out : (o ≡ 2 * length s.mesh) ⊎ (0 < N.credits x o c) = elim parts.0 [
        | inl at ↦ inl (same_true o (terminal (router_at s x)) at ∙ terminal_is)
        | inr some ↦ inr (rw (spent_there s x o c c_within) (less_true 0 (output_at (router_at s x) o c).credits some))
      ] in
      let owe : IsSome (neighbour_of s.mesh x p) → N.owed x p v < s.depth = λ linked. elim parts.1 [
        | inl at ↦
            let some : not (is_linked (router_at s x) p) ≡ false =
            ap not (linked_is s x p node.same_mesh node.same_node ∙ linked) in
            absurd (cc)
        | inr few ↦
            rw (owed_there s x p v place) (let less =
            less_true (input_at (router_at s x) p v).owed (router_at s x).depth few in
            let d = node.same_depth in omega arith)
      ] in
      (rw buffer_is (omega arith), out, owe)

  -- and back
  may_leave_by : MaySend (shape s) N x p v o c → may_leave s x p v o c ≡ true
  unfolding net_shape
  may_leave_by may =
      let node = net.framed.each_node x place.node_in in
      let out : ((o == terminal (router_at s x)) ≡ true) ⊎ (nat_lt 0 (output_at (router_at s x) o c).credits ≡ true) =
      elim (may.1) [
        | inl at ↦ inl (same_test o (terminal (router_at s x)) (at ∙ sym terminal_is))
        | inr some ↦
            inr (less_test 0 (output_at (router_at s x) o c).credits (rw (spent_there s x o c c_within) at some))
      ] in
      let owe : (not (is_linked (router_at s x) p) ≡ true) ⊎
      (nat_lt (input_at (router_at s x) p v).owed (router_at s x).depth ≡ true) =
      elim (bool_cases (is_some (neighbour_of s.mesh x p))) [
        | inr none ↦ inl (ap not (linked_is s x p node.same_mesh node.same_node ∙ none))
        | inl linked ↦
            inr (less_test (input_at (router_at s x) p v).owed (router_at s x).depth (let less =
            rw (owed_there s x p v place) at (may.2 linked) in let d = node.same_depth in omega arith))
      ] in
      of_both (o == terminal (router_at s x)) (nat_lt 0 (output_at (router_at s x) o c).credits)
      (not (is_linked (router_at s x) p)) (nat_lt (input_at (router_at s x) p v).owed (router_at s x).depth) out owe

  abbrev leaves : Option (ℕ × Flit)
  leaves = Some (o, with_channel f c)

  -- what a Send leaves of the lists, where this leaves
  abbrev at_home : NetState
  at_home =
      with_node s x (record (node_at s x) {
        router = after_leaving (router_at s x) p v leaves;
        sink = record (sink_at s x) { delivered = (sink_at s x).delivered ++ with_channel f c ∷ [] };
      })

  abbrev on_link : NetState
  on_link =
      with_link (with_router s x (after_leaving (router_at s x) p v leaves)) (link_out s x o)
      (record (link_at s (link_out s x o)) { flits = (link_at s (link_out s x o)).flits ++ with_channel f c ∷ [] })

  -- a network that the step makes, and what it answers then
  abbrev Made : NetState → Type 0
  Made new = IsWorkableBy own new × Stands s (Send x p v) new

  pub enabled_by : may_leave s x p v o c ≡ true → Enabled (shape s) N (Send x p v)
  enabled_by test = subst (λ (r : InRecord). IsActiveAt r (MaySend (shape s) N x p v)) (sym record_is) (may_send test)

  pub to_after : sent_by (shape s) N x p v o c f rest ≡ after (shape s) N (Send x p v)
  to_after =
      ap (λ (fs : List Flit). sent (shape s) N x p v (Active o c) fs) (sym buffer_is)
      ∙ ap (λ (r : InRecord). sent (shape s) N x p v r (N.buffer x p v)) (sym record_is)

  made_home : IsThere (shape s) (Send x p v) → may_leave s x p v o c ≡ true → o ≡ 2 * length s.mesh → Made at_home
  made_home there test at =
      let enabled = enabled_by test in
      let step = delivered_bridge s x p v o c f rest net place at c_within e b ∙ to_after in
      let r = after_leaving (router_at s x) p v leaves in
      let framed =
      node_framed s x _ net.framed place.node_in
      (node_of s.mesh s.channels s.depth x (node_at s x) r.inputs r.outputs
      ((sink_at s x).delivered ++ with_channel f c ∷ []) (net.framed.each_node x place.node_in) (rw length-set refl)
      (rw length-set refl)) in (
        kept s at_home.nodes s.links (Send x p v) net there enabled framed step,
        record {
          there = there;
          enabled = enabled;
          after_it = step;
          config = record { mesh = refl; channels = refl; depth = refl; names = refl; own = refl };
          framed = framed;
        },
      )

  made_over : IsThere (shape s) (Send x p v) → may_leave s x p v o c ≡ true → (y : ℕ) →
      neighbour_of s.mesh x o ≡ Some y → Made on_link
  made_over there test y linked =
      let enabled = enabled_by test in
      let lead = leader s x o y net.framed linked in
      let node = net.framed.each_node x place.node_in in
      let port_in : o < 2 * length s.mesh = lead.port_in in
      let o_in : o ≤ terminal (router_at s x) = rw terminal_is (omega arith) in
      let step = sent_to_link s x p v o c f rest net place lead.has o_in c_within e b ∙ to_after in
      let r = after_leaving (router_at s x) p v leaves in
      let mid = with_router s x r in
      let mid_framed =
      router_framed s x r.inputs r.outputs net.framed place.node_in (rw length-set refl) (rw length-set refl) in
      let framed =
      link_framed mid (link_out s x o) (record (link_at s (link_out s x o)) {
        flits = (link_at s (link_out s x o)).flits ++ with_channel f c ∷ [];
      }) mid_framed lead.bound refl in (
        kept s on_link.nodes on_link.links (Send x p v) net there enabled framed step,
        record {
          there = there;
          enabled = enabled;
          after_it = step;
          config = record { mesh = refl; channels = refl; depth = refl; names = refl; own = refl };
          framed = framed;
        },
      )

  -- at the terminal or not
  made_by : Way s x o → IsThere (shape s) (Send x p v) → may_leave s x p v o c ≡ true →
      Made (if o == 2 * length s.mesh then at_home else on_link)
  made_by (home at) there test = rw (same_test o (2 * length s.mesh) at) (made_home there test at)
  made_by (over y linked) there test =
      let lead = leader s x o y net.framed linked in
      rw (below_not_same o (2 * length s.mesh) lead.port_in) (made_over there test y linked)

  pub made : IsThere (shape s) (Send x p v) → may_leave s x p v o c ≡ true → leaving (router_at s x) p v ≡ leaves →
      Made (after_sending s x p v (o, with_channel f c))
  made there test is =
      subst (λ (l : Option (ℕ × Flit)).
      Made (if o == 2 * length s.mesh then with_node s x
      (record (node_at s x) {
        router = after_leaving (router_at s x) p v l;
        sink = record (sink_at s x) { delivered = (sink_at s x).delivered ++ with_channel f c ∷ [] };
      })
      else with_link (with_router s x (after_leaving (router_at s x) p v l)) (link_out s x o)
      (record (link_at s (link_out s x o)) { flits = (link_at s (link_out s x o)).flits ++ with_channel f c ∷ [] })))
      (sym is) (made_by goes.way there test)

  -- a link is there for it, with room
  by_link_of : ((y : ℕ) → neighbour_of s.mesh x o ≡ Some y → (own x ≡ true) × (own y ≡ true)) → Way s x o →
      may_leave s x p v o c ≡ true → LeavesByLink s x leaves
  unfolding net_shape
  by_link_of inner (home at) test = λ off.
      let here : (o == 2 * length s.mesh) ≡ true = same_test o (2 * length s.mesh) at in absurd (cc)
  by_link_of inner (over y linked) test =
      let lead = leader s x o y net.framed linked in
      let off : (o == 2 * length s.mesh) ≡ false = below_not_same o (2 * length s.mesh) lead.port_in in
      let may = may_send test in
      let credit : 0 < N.credits x o c = elim may.1 [
        | inl at ↦ let here : (o == 2 * length s.mesh) ≡ true = same_test o (2 * length s.mesh) at in absurd (cc)
        | inr some ↦ some
      ] in
      λ _. (
        subst IsSome (sym linked) refl,
        link_room s x o y c net (inner y linked) linked lead.has lead.bound goes.channel credit,
      )

  pub leads_off : ((y : ℕ) → neighbour_of s.mesh x o ≡ Some y → (own x ≡ true) × (own y ≡ true)) →
      may_leave s x p v o c ≡ true → LeavesByLink s x leaves
  leads_off inner test = by_link_of inner goes.way test

-- what a send that is tried leaves and answers

stood : (s : NetState) (step : Step) (new : NetState) → Stands s step new → (Hindered s step → ⊥) →
    new ≡ done_step s step → IsMade s step new
stood s step new stands free same =
    record {
      there = stands.there;
      enabled = stands.enabled;
      free = free;
      after_it = stands.after_it;
      config = stands.config;
      exact = same;
      framed = stands.framed;
    }

Outcome : (ℕ → Bool) → NetState → ℕ → ℕ → ℕ → Result Moved StepFault → NetState → Type 0
Outcome own s x p v answer new = IsWorkableBy own new × Replies s (Send x p v) answer new

idle_answers : (s : NetState) (x p v : ℕ) → {own : ℕ → Bool} → IsWorkableBy own s → IsThere (shape s) (Send x p v) →
    (Enabled (shape s) (network_of s) (Send x p v) → ⊥)
    → (answer : Result Moved StepFault) (new : NetState) → Sends s x p v None answer new →
    Outcome own s x p v answer new
unfolding Outcome
idle_answers s x p v net there idle (Ok Done) new sends = absurd sends
idle_answers s x p v {own} net there idle (Ok StayedIdle) new sends =
    (subst (IsWorkableBy own) (sym sends) net, (there, λ h _. idle h, refl, sends))
idle_answers s x p v net there idle (Err fault) new sends = absurd sends

done_answers : (s : NetState) (x p v : ℕ) (d : ℕ × Flit) → {own : ℕ → Bool} → IsWorkableBy own s →
    IsThere (shape s) (Send x p v) → Enabled (shape s) (network_of s) (Send x p v)
    → (d.0 ≡ 2 * length s.mesh → Grows (shape s) (network_of s) (Send x p v))
    → IsWorkableBy own (after_sending s x p v d) × Stands s (Send x p v) (after_sending s x p v d) →
    after_sending s x p v d ≡ done_step s (Send x p v) → leaving (router_at s x) p v ≡ Some d
    → (answer : Result Moved StepFault) (new : NetState) → Sends s x p v (Some d) answer new →
    Outcome own s x p v answer new
unfolding Outcome
done_answers s x p v d {own} net there enabled grows made same is (Ok Done) new sends =
    let way : HasWay s x (leaving (router_at s x) p v) =
    subst (λ (o : Option (ℕ × Flit)). HasWay s x o) (sym is) sends.0 in
    subst (λ (n : NetState). IsWorkableBy own n × Replies s (Send x p v) (Ok Done) n) (sym sends.1) (
      made.0,
      stood s (Send x p v) (after_sending s x p v d) made.1 (λ hindered. hindered way) same,
    )
done_answers s x p v d {own} net there enabled grows made same is (Ok StayedIdle) new sends = (
  subst (IsWorkableBy own) (sym sends.1) net,
  (there, λ _. subst (λ (o : Option (ℕ × Flit)). HasWay s x o → ⊥) (sym is) sends.0, refl, sends.1),
)
done_answers s x p v d {own} net there enabled grows made same is (Err NoSuchPlace) new sends = absurd sends
done_answers s x p v d {own} net there enabled grows made same is (Err (Refused fault)) new sends = absurd sends
done_answers s x p v d {own} net there enabled grows made same is (Err NoMemory) new sends = (
  subst (IsWorkableBy own) (sym sends.1) net,
  (
    there,
    enabled,
    grows (same_true d.0 (2 * length s.mesh) sends.0),
    sends.1,
    λ hindered. hindered (subst (λ (o : Option (ℕ × Flit)). HasWay s x o) (sym is) sends.2),
  ),
)

-- what leaves stays among the nodes that are owned
abbrev pub SendsWithin : (ℕ → Bool) → NetState → ℕ → ℕ → ℕ → Type 0
SendsWithin own s x p v = IfSome (leaving (router_at s x) p v) (λ out. EndsWithin (shape s) own x out.0)

-- of each state and list of an input channel
abbrev Judged : (ℕ → Bool) → NetState → ℕ → ℕ → ℕ → InRecord → List Flit → Type 0
Judged own s x p v st fs =
    LeavesByLink s x (leaving_by (router_at s x) p (input_at (router_at s x) p v) st fs)
    × ((answer : Result Moved StepFault) (new : NetState) →
    Sends s x p v (leaving_by (router_at s x) p (input_at (router_at s x) p v) st fs) answer new →
    Outcome own s x p v answer new)

judged : (s : NetState) (x p v : ℕ) → {own : ℕ → Bool} → IsWorkableBy own s → SendsWithin own s x p v
    → IsNetPlace s x p v → x < node_count s.mesh → IsPort (shape s) x p → IsThere (shape s) (Send x p v) →
    (st : InRecord) (fs : List Flit) → (input_at (router_at s x) p v).state ≡ st →
    (input_at (router_at s x) p v).buffer ≡ fs → Judged own s x p v st fs
unfolding net_shape
judged s x p v net inner place x_in port there Idle fs e b = (
  tt,
  idle_answers s x p v net there
      (λ h. subst (λ (r : InRecord). IsActiveAt r (MaySend (shape s) (network_of s) x p v))
      (record_there s x p v place ∙ e) h),
)
judged s x p v net inner place x_in port there (Waiting o) fs e b = (
  tt,
  idle_answers s x p v net there
      (λ h. subst (λ (r : InRecord). IsActiveAt r (MaySend (shape s) (network_of s) x p v))
      (record_there s x p v place ∙ e) h),
)
judged s x p v net inner place x_in port there (Active o c) [] e b = (
  tt,
  idle_answers s x p v net there (λ h.
      let may : MaySend (shape s) (network_of s) x p v o c =
      subst (λ (r : InRecord). IsActiveAt r (MaySend (shape s) (network_of s) x p v)) (record_there s x p v place ∙
      e) h in
      let some : 0 < length ((network_of s).buffer x p v) = may.0 in
      absurd (omega (arith, ap (λ (fs : List Flit). length fs) (buffer_there s x p v place ∙ b)))),
)
judged s x p v {own} net inner place x_in port there (Active o c) (f ∷ rest) e b =
    elim (bool_cases (may_leave s x p v o c)) [
      | inl test ↦
          let leaves_is : leaving (router_at s x) p v ≡ Some (o, with_channel f c) =
          ap (λ (r : InRecord). leaving_by (router_at s x) p (input_at (router_at s x) p v) r
          (input_at (router_at s x) p v).buffer) e
          ∙ (ap (λ (fs : List Flit). leaving_by (router_at s x) p (input_at (router_at s x) p v) (Active o c) fs) b ∙
          rw test refl) in
          let grows : o ≡ 2 * length s.mesh → Grows (shape s) (network_of s) (Send x p v) =
          λ at. subst (λ (r : InRecord). IsActiveAt r (λ o c. o ≡ 2 * length s.mesh))
          (sym (record_there s x p v place ∙ e)) at in
          let all = made s x p v o c f rest net place x_in port e b there test leaves_is in
          rw test (
            leads_off s x p v o c f rest net place x_in port e b
                (subst (λ (l : Option (ℕ × Flit)). IfSome l (λ out. EndsWithin (shape s) own x out.0)) leaves_is inner)
                test,
            done_answers s x p v (o, with_channel f c) net there
                (enabled_by s x p v o c f rest net place x_in port e b test) grows all
                (ap (after_ready s x p v) (sym leaves_is)) leaves_is,
          )
      | inr test ↦
          rw test (
            tt,
            idle_answers s x p v net there (λ h.
                let may : MaySend (shape s) (network_of s) x p v o c =
                subst (λ (r : InRecord). IsActiveAt r (MaySend (shape s) (network_of s) x p v))
                (record_there s x p v place ∙ e) h in
                let yes_test = may_leave_by s x p v o c f rest net place x_in port e b may in
                absurd (cc)),
          )
    ]

pub send_answers : (s : NetState) (x p v : ℕ) → {own : ℕ → Bool} → IsWorkableBy own s → SendsWithin own s x p v →
    IsThere (shape s) (Send x p v)
    → (answer : Result Moved StepFault) (new : NetState) → Sends s x p v (leaving (router_at s x) p v) answer new →
    IsWorkableBy own new × Replies s (Send x p v) answer new
unfolding net_shape Outcome
send_answers s x p v net inner there answer new sends =
    let place = net_place s x p v net.framed there.0 there.1 there.2 in
    (judged s x p v net inner place there.0 there.1 there (input_at (router_at s x) p v).state
    (input_at (router_at s x) p v).buffer refl refl).1 answer new sends

pub send_leads : (s : NetState) (x p v : ℕ) → {own : ℕ → Bool} → IsWorkableBy own s → SendsWithin own s x p v →
    IsThere (shape s) (Send x p v)
    → LeavesByLink s x (leaving (router_at s x) p v)
unfolding net_shape
send_leads s x p v net inner there =
    let place = net_place s x p v net.framed there.0 there.1 there.2 in
    (judged s x p v net inner place there.0 there.1 there (input_at (router_at s x) p v).state
    (input_at (router_at s x) p v).buffer refl refl).0
