-- What comes and goes over links that are kept elsewhere: what it makes of the functions of places, and that it keeps
-- what moves need.
use Rattle.std.proofs.Common.{◌≡◌, ℕ, ◌-◌, ◌*◌, ◌<◌, ◌≤◌, Bool, false, ◌⊎◌, inl, inr, List, [], ◌∷◌, ◌++◌, length, sum}
use Rattle.std.proofs.Common.{Option, Some, None, refl, ap, sym, subst, ◌∙◌}
use Rattle.std.specs.Prelude.{IsSome, IfSome}
use Rattle.std.proofs.Math.ListN.{length-set}
use Rattle.worm_flit.specs.declared.Flit.{Flit}
use Rattle.worm_flit.specs.Stamps.{with_channel}
use Rattle.worm_mesh.specs.Address.{neighbour_of, opposite_of, node_count}
use Rattle.worm_mesh.specs.Links.{links_before}
use Rattle.worm_records.specs.declared.InRecord.{InRecord}
use Rattle.worm_records.specs.declared.InRecord.TheVariants.{Idle, Waiting, Active}
use Rattle.worm_router.specs.Router.{input_at, leaving, leaving_by, after_leaving, after_send, after_gave, terminal}
use Rattle.worm_theory.specs.Network.{Network, put2, put3}
use Rattle.worm_theory.specs.Steps.{GiveCredit, Send, IsThere, after, sent_by, gave}
use Rattle.worm_theory.proofs.Places.{bool_cases}
use Rattle.worm_region.specs.Shape.{net_shape}
use Rattle.worm_region.specs.State.{NetState, IsNetPlace, shape, network_of, router_at, with_router, link_at}
use Rattle.worm_wires.specs.Links.{LinkView}
use Rattle.worm_region.specs.State.{with_link}
use Rattle.worm_region.specs.Workable.{IsWorkableBy, IsSent, Works}
use Rattle.worm_region.specs.Moves.{link_out}
use Rattle.worm_wires.specs.Wiring.{into_from}
use Rattle.worm_region.specs.Edges.{Arrives, ComesBack, LetsOut, LetsGive, after_arriving, after_credit_back}
use Rattle.worm_region.proofs.NodeWritten.{put2_same}
use Rattle.worm_region.proofs.LinksThere.{feeder, leader}
use Rattle.worm_region.proofs.GiveAgrees.{owed_bridge}
use Rattle.worm_region.proofs.FrameKept.{framed_mesh, router_framed}
use Rattle.worm_region.proofs.PlacesThere.{net_place, port_below}
use Rattle.worm_region.proofs.LinkWritten.{link_bridge, link_framed, out_there, credits_there}
use Rattle.worm_region.proofs.SentToLink.{active_leads, sent_bridge}
use Rattle.worm_region.proofs.SendAgrees.{may_leave, may_send, c_within, enabled_by, to_after}
use Rattle.worm_region.proofs.AsListed.{buffer_there, owed_there, record_there}
use Rattle.worm_region.proofs.OwnEdges.{AreElsewhere, let_out_works, arrive_works, back_works, gave_works}

-- a flit that comes onto a link
pub arrived : (s : NetState) (x o : ℕ) (f : Flit) → {own : ℕ → Bool} → IsWorkableBy own s → own x ≡ false →
    IsSome (neighbour_of s.mesh x o)
    → f.vc < sum s.channels → f.lane.dst < node_count s.mesh
    → IsWorkableBy own (after_arriving s x o f) × Arrives s x o f (after_arriving s x o f)
unfolding net_shape
arrived s x o f {own} net elsewhere linked channel goal = by_link (neighbour_of s.mesh x o) refl linked where
  by_link : (n : Option ℕ) → neighbour_of s.mesh x o ≡ n → IsSome n
      → IsWorkableBy own (after_arriving s x o f) × Arrives s x o f (after_arriving s x o f)
  by_link None e some = absurd (cc)
  by_link (Some y) e some =
      let N = network_of s in
      let k = link_out s x o in
      let lead = leader s x o y net.framed e in
      let l : LinkView = record (link_at s k) { flits = (link_at s k).flits ++ f ∷ [] } in
      let flits : (link_at s k).flits ≡ N.out x o = sym (out_there s x o net.framed lead.has) in
      let credits =
      put2_same N.credit_list x o (link_at s k).credits (sym (credits_there s x o net.framed lead.has)) in
      let same : record N {
        out = put2 N.out x o ((link_at s k).flits ++ f ∷ []);
        credit_list = put2 N.credit_list x o (link_at s k).credits;
      } ≡ record N { out = put2 N.out x o (N.out x o ++ f ∷ []) }
      = λ t. record N { out = put2 N.out x o (flits t ++ f ∷ []); credit_list = credits t } in
      let is = link_bridge s x o l net.framed lead.has ∙ same in
      let is_sent : IsSent (shape s) f = record { goal = goal; channel = channel } in
      let works = arrive_works (shape s) (framed_mesh s net.framed) N net.works x o f is_sent elsewhere in (
        record {
          framed = link_framed s k l net.framed lead.bound refl;
          works = subst (λ (n : Network). Works (shape s) own n) (sym is) works;
        },
        record { exact = refl; after_it = is },
      )

-- a credit more on the way back over the link into a port, whose neighbour is this
abbrev back_by : NetState → ℕ → ℕ → Option ℕ → NetState
back_by s p v n =
    let link = link_at s (into_from s.mesh p n) in
    with_link s (into_from s.mesh p n) (record link { credits = link.credits ++ v ∷ [] })

-- a credit that comes back
pub credited : (s : NetState) (x p v : ℕ) → {own : ℕ → Bool} → IsWorkableBy own s → own x ≡ false →
    IsSome (neighbour_of s.mesh x p)
    → v < sum s.channels → IsWorkableBy own (after_credit_back s x p v) × ComesBack s x p v (after_credit_back s x p v)
unfolding net_shape
credited s x p v {own} net elsewhere linked channel = by_link (neighbour_of s.mesh x p) refl linked where
  by_link : (n : Option ℕ) → neighbour_of s.mesh x p ≡ n → IsSome n
      → IsWorkableBy own (back_by s p v n) × ComesBack s x p v (after_credit_back s x p v)
  by_link None e some = absurd (cc)
  by_link (Some y) e some =
      let N = network_of s in
      let o = opposite_of p in
      let k = links_before s.mesh y o in
      let fed = feeder s x p y net.framed e in
      let back : neighbour_of s.mesh y o ≡ Some x = (framed_mesh s net.framed).link_back x p y e in
      let crosses : (z : ℕ) → neighbour_of s.mesh y o ≡ Some z → own z ≡ false = λ z to.
      let one : ◌≡◌ {A = Option ℕ} (Some x) (Some z) = sym back ∙ to in
      let same : z ≡ x = cc in
      ap own same ∙ elsewhere in
      let l : LinkView = record (link_at s k) { credits = (link_at s k).credits ++ v ∷ [] } in
      let list : (link_at s k).credits ≡ N.credit_list y o = sym (credits_there s y o net.framed fed.has) in
      let flits = put2_same N.out y o (link_at s k).flits (sym (out_there s y o net.framed fed.has)) in
      let same : record N {
        out = put2 N.out y o (link_at s k).flits;
        credit_list = put2 N.credit_list y o ((link_at s k).credits ++ v ∷ []);
      } ≡ record N { credit_list = put2 N.credit_list y o (N.credit_list y o ++ v ∷ []) }
      = λ t. record N { out = flits t; credit_list = put2 N.credit_list y o (list t ++ v ∷ []) } in
      let is = link_bridge s y o l net.framed fed.has ∙ same in
      let works = back_works (shape s) (framed_mesh s net.framed) N net.works y o v channel crosses in
      let at : network_of (after_credit_back s x p v) ≡
      record N { credit_list = put2 N.credit_list y o (N.credit_list y o ++ v ∷ []) } =
      ap (λ (n : Option ℕ). network_of (back_by s p v n)) e ∙ is in (
        record {
          framed = link_framed s k l net.framed fed.bound refl;
          works = subst (λ (n : Network). Works (shape s) own n) (sym is) works;
        },
        record {
          exact = refl;
          after_it = λ z to.
              let one : ◌≡◌ {A = Option ℕ} (Some y) (Some z) = sym e ∙ to in
              let same_node : y ≡ z = cc in
              at ∙ (λ t. record N {
                credit_list = put2 N.credit_list (same_node t) o (N.credit_list (same_node t) o ++ v ∷ []);
              });
        },
      )

-- a credit that goes elsewhere
pub gave_away : (s : NetState) (x p v : ℕ) → {own : ℕ → Bool} → IsWorkableBy own s → AreElsewhere (shape s) own x p →
    IsThere (shape s) (GiveCredit x p v) → 0 < (input_at (router_at s x) p v).owed
    → IsWorkableBy own (with_router s x (after_gave (router_at s x) p v)) ×
    LetsGive s x p v (with_router s x (after_gave (router_at s x) p v))
unfolding net_shape
gave_away s x p v {own} net crosses there owed = by_link (neighbour_of s.mesh x p) refl there.1 where
  place : IsNetPlace s x p v
  place = net_place s x p v net.framed there.0 (inr there.1) there.2

  is : network_of (with_router s x (after_gave (router_at s x) p v)) ≡
      record (network_of s) { owed = put3 (network_of s).owed x p v ((network_of s).owed x p v - 1) }
  is = owed_bridge s x p v net.framed place

  by_link : (n : Option ℕ) → neighbour_of s.mesh x p ≡ n → IsSome n →
      IsWorkableBy own (with_router s x (after_gave (router_at s x) p v)) ×
      LetsGive s x p v (with_router s x (after_gave (router_at s x) p v))
  by_link None e some = absurd (cc)
  by_link (Some y) e some =
      let N = network_of s in
      let r = after_gave (router_at s x) p v in
      let enabled : 0 < N.owed x p v = subst (λ (n : ℕ). 0 < n) (sym (owed_there s x p v place)) owed in
      let to : record N {
        owed = put3 N.owed x p v (N.owed x p v - 1);
      } ≡ record (after (shape s) N (GiveCredit x p v)) { credit_list = N.credit_list } =
      ap (λ (z : Option ℕ). record (gave (shape s) N x p v z) { credit_list = N.credit_list }) (sym e) in (
        record {
          framed = router_framed s x r.inputs r.outputs net.framed place.node_in (rw length-set refl) refl;
          works =
              subst (λ (n : Network). Works (shape s) own n) (sym is)
              (gave_works (shape s) (framed_mesh s net.framed) N net.works x p v (N.owed x p v - 1) y e (crosses y e));
        },
        record { exact = refl; enabled = enabled; after_it = is ∙ to },
      )

-- a flit that goes elsewhere
Leaves : (ℕ → Bool) → NetState → ℕ → ℕ → ℕ → Type 0
Leaves own s x p v =
    IsWorkableBy own (with_router s x (after_send (router_at s x) p v)) ×
    LetsOut s x p v (with_router s x (after_send (router_at s x) p v))

left : (s : NetState) (x p v : ℕ) (d : ℕ × Flit) → {own : ℕ → Bool} → IsWorkableBy own s →
    IfSome (leaving (router_at s x) p v) (λ d. AreElsewhere (shape s) own x d.0) → IsNetPlace s x p v →
    IsThere (shape s) (Send x p v) → (st : InRecord) (fs : List Flit)
    → (input_at (router_at s x) p v).state ≡ st → (input_at (router_at s x) p v).buffer ≡ fs →
    leaving (router_at s x) p v ≡ Some d
    → leaving_by (router_at s x) p (input_at (router_at s x) p v) st fs ≡ Some d → Leaves own s x p v
unfolding net_shape Leaves
left s x p v d net crosses place there Idle fs e b ready by =
    let no_flit : ◌≡◌ {A = Option (ℕ × Flit)} None (Some d) = by in absurd (cc)
left s x p v d net crosses place there (Waiting o) fs e b ready by =
    let no_flit : ◌≡◌ {A = Option (ℕ × Flit)} None (Some d) = by in absurd (cc)
left s x p v d net crosses place there (Active o c) [] e b ready by =
    let no_flit : ◌≡◌ {A = Option (ℕ × Flit)} None (Some d) = by in absurd (cc)
left s x p v d {own} net crosses place there (Active o c) (f ∷ rest) e b ready by =
    elim (bool_cases (may_leave s x p v o c)) [
      | inr test ↦ let none : ◌≡◌ {A = Option (ℕ × Flit)} None (Some d) = rw test at by in absurd (cc)
      | inl test ↦
          let N = network_of s in
          let one : ◌≡◌ {A = Option (ℕ × Flit)} (Some (o, with_channel f c)) (Some d) = rw test at by in
          let leaves : leaving (router_at s x) p v ≡ Some (o, with_channel f c) = ready ∙ sym one in
          let node = net.framed.each_node x place.node_in in
          let record_is = record_there s x p v place ∙ e in
          let buffer_is = buffer_there s x p v place ∙ b in
          let leads = active_leads s x p v o c net place.node_in record_is in
          let port_in = port_below s x o net.framed leads.0 in
          let o_in : o ≤ terminal (router_at s x) = rw node.same_mesh port_in in
          let c_in = c_within s x p v o c f rest net place there.0 there.1 e b in
          let r = after_leaving (router_at s x) p v (Some (o, with_channel f c)) in
          let is = sent_bridge s x p v o c f rest net place o_in c_in e b in
          let to : record (sent_by (shape s) N x p v o c f rest) {
            out = N.out;
          } ≡ record (after (shape s) N (Send x p v)) { out = N.out } =
          ap (λ (n : Network). record n { out = N.out }) (to_after s x p v o c f rest net place there.0 there.1 e b) in
          let to_cross : AreElsewhere (shape s) own x o =
          subst (λ (l : Option (ℕ × Flit)). IfSome l (λ d. AreElsewhere (shape s) own x d.0)) leaves crosses in
          let may : (0 < N.credits x o c) ⊎ (o ≡ 2 * length s.mesh) =
          elim (may_send s x p v o c f rest net place there.0 there.1 e b test).1 [
            | inl at ↦ inr at
            | inr some ↦ inl some
          ] in
          let made : IsWorkableBy own (with_router s x r) ×
          (network_of (with_router s x r) ≡ record (after (shape s) N (Send x p v)) { out = N.out }) = (
            record {
              framed =
                  router_framed s x r.inputs r.outputs net.framed place.node_in (rw length-set refl)
                  (rw length-set refl);
              works =
                  subst (λ (n : Network). Works (shape s) own n) (sym is)
                  (let_out_works (shape s) (framed_mesh s net.framed) N net.works x p v o c f rest there.0 record_is
                  buffer_is may to_cross);
            },
            is ∙ to,
          ) in
          let all =
          subst (λ (l : Option (ℕ × Flit)). IsWorkableBy own (with_router s x (after_leaving (router_at s x) p v l)) ×
          (network_of (with_router s x (after_leaving (router_at s x) p v l)) ≡
          record (after (shape s) N (Send x p v)) { out = N.out })) (sym leaves) made in (
            all.0,
            record {
              exact = refl;
              enabled = enabled_by s x p v o c f rest net place there.0 there.1 e b test;
              after_it = all.1;
            },
          )
    ]

pub left_by : (s : NetState) (x p v o : ℕ) (f : Flit) → {own : ℕ → Bool} → IsWorkableBy own s →
    AreElsewhere (shape s) own x o → IsThere (shape s) (Send x p v) → leaving (router_at s x) p v ≡ Some (o, f)
    → IsWorkableBy own (with_router s x (after_send (router_at s x) p v)) ×
    LetsOut s x p v (with_router s x (after_send (router_at s x) p v))
unfolding Leaves
left_by s x p v o f {own} net crosses there ready =
    let place = net_place s x p v net.framed there.0 there.1 there.2 in
    let to_cross =
    subst (λ (l : Option (ℕ × Flit)). IfSome l (λ d. AreElsewhere (shape s) own x d.0)) (sym ready) crosses in
    left s x p v (o, f) net to_cross place there (input_at (router_at s x) p v).state
    (input_at (router_at s x) p v).buffer refl refl ready ready
