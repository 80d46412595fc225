-- What goes by a part's end: a flit over a link that leaves its nodes, a credit over one that enters them.
use Rattle.std.proofs.Common.{◌≡◌, ℕ, ◌<◌, ◌≤◌, ◌==◌, ◌&&◌, ◌||◌, true, false, inl, inr, List, [], ◌∷◌, ◌++◌, length}
use Rattle.std.proofs.Common.{sum, get_or, Option, Some, None, refl, sym, ap, subst, ◌∙◌}
use Rattle.std.specs.Prelude.{not, slice_set, nat_lt}
use Rattle.std.proofs.lemmas.List.{set-get_or}
use Rattle.worm_flit.specs.declared.Flit.{Flit}
use Rattle.worm_flit.specs.Stamps.{on_channel, with_channel}
use Rattle.worm_flit.specs.Worms.{Continues}
use Rattle.worm_mesh.specs.Address.{neighbour_of, node_count, opposite_of}
use Rattle.worm_mesh.specs.Links.{links_before}
use Rattle.worm_records.specs.declared.InRecord.{InRecord}
use Rattle.worm_records.specs.declared.InRecord.TheVariants.{Idle, Waiting, Active}
use Rattle.worm_links.specs.declared.LinkCfg.{LinkCfg}
use Rattle.worm_links.specs.Links.{TxView, RxView, CreditTxView, CreditRxView, MayCross, link_capacity}
use Rattle.worm_router.specs.Router.{RouterState, input_at, is_linked, output_at, terminal, leaving}
use Rattle.worm_router.specs.Router.{leaving_by, after_send, after_gave}
use Rattle.worm_theory.specs.Shape.{Shape}
use Rattle.worm_theory.specs.Steps.{IsLinked, Send, GiveCredit, IsThere, Enabled, FrontIs, after}
use Rattle.worm_theory.proofs.Places.{bool_cases}
use Rattle.worm_region.specs.Shape.{net_shape}
use Rattle.worm_region.specs.State.{NetState, IsSameConfig, IsNetPlace, shape, network_of, router_at}
use Rattle.worm_region.specs.State.{with_router}
use Rattle.worm_region.specs.Edges.{LetsOut, LetsGive}
use Rattle.worm_region.specs.Workable.{owned, EndsElsewhere}
use Rattle.worm_wires.specs.declared.wiring.PortLinks.{PortLinks}
use Rattle.worm_region.proofs.PlacesThere.{net_place}
use Rattle.worm_region.proofs.AsListed.{buffer_there, record_there}
use Rattle.worm_theory.specs.Openings.{past_of}
use Rattle.worm_theory.proofs.Regions.{push_part}
use Rattle.worm_split.specs.declared.ends.End.{End}
use Rattle.worm_split.specs.declared.ends.End.TheVariants.{Leaving, Entering}
use Rattle.worm_split.specs.Ends.{FlitPushed, CreditPushed, MayGo, MayGive, sent_on}
use Rattle.worm_split.specs.PartState.{PartState, IsPart, IsSamePart, end_of, owns, part_network, taken_by, returned_to}
use Rattle.worm_split.specs.PartTurns.{SendsAcross, GivesAcross, ComesBy, LeavesBy, with_end}
use Rattle.worm_split.proofs.Crossing.{leaves_cross}
use Rattle.worm_split.proofs.EndFacts.{IsLeavingEnd, IsEnteringEnd}
use Rattle.worm_split.proofs.PartFacts.{mesh_of_part, part_shape, is_leaving, is_entering}
use Rattle.worm_split.proofs.PartMoves.{flit_goes, credit_goes}
use Rattle.worm_split.proofs.ComesByEnd.{linked_then, back_then}
use Rattle.worm_split.proofs.EndsKnown.{HasLinks, linked, out_is, into_is, out_looked_up, into_looked_up}

-- A flit that is ready: the front of a channel that is active.
pub record IsReadyAt (s : NetState) (x p v o : ℕ) (flit : Flit) : Type 0 where
  pub channel : ℕ
  pub front : Flit
  pub rest : List Flit
  pub active : (network_of s).in_record x p v ≡ Active o channel
  pub buffer : (network_of s).buffer x p v ≡ front ∷ rest
  pub goes_as : flit ≡ with_channel front channel

ready_of : (s : NetState) (x p v o : ℕ) (flit : Flit) → IsNetPlace s x p v → (st : InRecord) (fs : List Flit)
    → (input_at (router_at s x) p v).state ≡ st → (input_at (router_at s x) p v).buffer ≡ fs
    → leaving_by (router_at s x) p (input_at (router_at s x) p v) st fs ≡ Some (o, flit) → IsReadyAt s x p v o flit
ready_of s x p v o flit place Idle fs e b by = let no_flit : ◌≡◌ {A = Option (ℕ × Flit)} None (Some (o, flit)) = by in
    absurd (cc)
ready_of s x p v o flit place (Waiting q) fs e b by = let no_flit : ◌≡◌ {A = Option (ℕ × Flit)} None (Some (o, flit)) =
    by in absurd (cc)
ready_of s x p v o flit place (Active q c) [] e b by = let no_flit : ◌≡◌ {A = Option (ℕ × Flit)} None (Some (o, flit)) =
    by in absurd (cc)
ready_of s x p v o flit place (Active q c) (f ∷ rest) e b by =
    let r = router_at s x in
    let test = (q == terminal r || nat_lt 0 (output_at r q c).credits) &&
    (not (is_linked r p) || nat_lt (input_at r p v).owed r.depth) in
    elim (bool_cases test) [
      | inr shut ↦ let none : ◌≡◌ {A = Option (ℕ × Flit)} None (Some (o, flit)) = rw shut at by in absurd (cc)
      | inl may ↦
          let one : ◌≡◌ {A = Option (ℕ × Flit)} (Some (q, with_channel f c)) (Some (o, flit)) = rw may at by in
          let pair : ◌≡◌ {A = ℕ × Flit} (q, with_channel f c) (o, flit) = cc in
          let same_port : q ≡ o = ap (λ (d : ℕ × Flit). d.0) pair in
          record {
            channel = c;
            front = f;
            rest = rest;
            active = record_there s x p v place ∙ e ∙ ap (λ (k : ℕ). Active k c) same_port;
            buffer = buffer_there s x p v place ∙ b;
            goes_as = sym (ap (λ (d : ℕ × Flit). d.1) pair);
          }
    ]

pub ready_at : (s : NetState) (x p v o : ℕ) (flit : Flit) → IsNetPlace s x p v
    → leaving (router_at s x) p v ≡ Some (o, flit) → IsReadyAt s x p v o flit
ready_at s x p v o flit place e = ready_of s x p v o flit place (input_at (router_at s x) p v).state
    (input_at (router_at s x) p v).buffer refl refl e

-- what a push by an end left
pub landed : (e new : End) (f : Flit) (tx : TxView) (back : CreditRxView) → e ≡ Leaving tx back
    → FlitPushed e f true new → new ≡ Leaving (record tx { sent = tx.sent ++ f ∷ [] }) back
landed e new f tx back at h = subst (λ (k : End). FlitPushed k f true new) at h

pub came_back : (e new : End) (f : Flit) (tx : TxView) (back : CreditRxView) → e ≡ Leaving tx back
    → FlitPushed e f false new → (new ≡ Leaving tx back) × (link_capacity tx.link ≤ length tx.sent)
came_back e new f tx back at h = subst (λ (k : End). FlitPushed k f false new) at h

pub given : (e new : End) (c : ℕ) (rx : RxView) (give : CreditTxView) → e ≡ Entering rx give → CreditPushed e c true new
    → new ≡ Entering rx (record give { sent = give.sent ++ c ∷ [] })
given e new c rx give at h = subst (λ (k : End). CreditPushed k c true new) at h

pub not_given : (e new : End) (c : ℕ) (rx : RxView) (give : CreditTxView) → e ≡ Entering rx give
    → CreditPushed e c false new → (new ≡ Entering rx give) × (link_capacity give.link ≤ length give.sent)
not_given e new c rx give at h = subst (λ (k : End). CreditPushed k c false new) at h

same_when_routed : (s new : NetState) (x : ℕ) (r : RouterState) → new ≡ with_router s x r → IsSameConfig s new
same_when_routed s new x r e = record {
  mesh = ap (λ (n : NetState). n.mesh) e;
  channels = ap (λ (n : NetState). n.channels) e;
  depth = ap (λ (n : NetState). n.depth) e;
  names = ap (λ (n : NetState). n.names) e;
  own = ap (λ (n : NetState). n.own) e;
}

-- A ready flit of a part, the link by which it leaves to another worker's node, and the end of that, looked up.
pub record IsGoing (p : PartState) (x z v o : ℕ) (flit : Flit) (links : PortLinks) (n : ℕ) (end : End) : Type 0 where
  pub has : HasLinks p x o links
  pub leaves : LeavesBy p x o
  pub there : IsThere (shape p.net) (Send x z v)
  pub ready : leaving (router_at p.net x) z v ≡ Some (o, flit)
  pub number : n ≡ links.out
  pub looked : end ≡ get_or p.ends n end

module _ {p : PartState} {x z v o : ℕ} {flit : Flit} {links : PortLinks} {n : ℕ} {end : End}
    (going : IsGoing p x z v o flit links n end) where
  abbrev tx : TxView
  tx = going.leaves.0

  abbrev back : CreditRxView
  back = going.leaves.1

  abbrev end_is : end_of p x o ≡ Leaving tx back
  end_is = going.leaves.2

  now : end ≡ end_of p x o
  now = out_looked_up going.has n end going.number going.looked

  leaving_facts : IsLeavingEnd p.opening.mesh p.opening.channels x o
      (past_of (shape p.opening) (network_of p.opening) x o links.beyond) (owns p x) (owns p links.beyond) tx back
  leaving_facts = is_leaving p going.has.part x o links.beyond tx back (linked_then going.has) end_is

  pub ends_elsewhere : EndsElsewhere (shape p.net) (owned p.net) x o
  unfolding net_shape
  ends_elsewhere =
      subst (λ (end : Option ℕ). IsLinked end (λ y. owned p.net y ≡ false)) (sym (linked going.has))
      leaving_facts.far_elsewhere

  is_ready : IsReadyAt p.net x z v o flit
  is_ready = ready_at p.net x z v o flit
      (net_place p.net x z v going.has.framed going.there.0 going.there.1 going.there.2) going.ready

  there_then : IsThere (shape p.opening) (Send x z v)
  there_then = subst (λ (s : Shape). IsThere s (Send x z v)) (part_shape p going.has.part) going.there

  pub may_go : MayGo end flit
  may_go =
      let r = is_ready in
      let s = shape p.opening in
      let seen = part_network p in
      let front : FrontIs (seen.buffer x z v) (λ f. f ≡ r.front) =
      subst (λ (fs : List Flit). FrontIs fs (λ f. f ≡ r.front)) (sym r.buffer) refl in
      let pushed = push_part s (mesh_of_part p going.has.part) (network_of p.opening) (owns p) seen (taken_by p)
      (returned_to p) going.has.part.holds x z v o r.channel links.beyond r.front
      leaving_facts.near_own leaving_facts.far_elsewhere
      (linked_then going.has) there_then.1 r.active front in
      let sent : seen.out x o ≡ tx.sent = ap (λ (e : End). sent_on e ((network_of p.net).out x o)) end_is in
      let continues : Continues (on_channel flit.vc (tx.past ++ tx.sent)) flit
      = subst (λ (f : Flit). Continues (on_channel f.vc (tx.past ++ tx.sent)) f) (sym r.goes_as)
      (subst (λ (fs : List Flit). Continues (on_channel r.channel fs) (with_channel r.front r.channel))
      (λ t. sym leaving_facts.past_is t ++ sent t) pushed.0) in
      let linked_open : neighbour_of p.opening.mesh x o ≡ Some links.beyond =
      rw (← going.has.part.config.mesh) (linked going.has) in
      let crossing : MayCross tx.link flit
      = subst (λ (f : Flit). MayCross tx.link f) (sym r.goes_as)
      (leaves_cross p.opening x o tx.link
      (with_channel r.front r.channel) going.has.part.opened.framed leaving_facts.link links.beyond linked_open
      pushed.1) in
      subst (λ (e : End). MayGo e flit) (sym (now ∙ end_is)) (continues, crossing)

  -- it landed
  pub went : (new : End) (net : NetState) → FlitPushed end flit true new → LetsOut p.net x z v net
      → IsPart (record p { net = net; ends = slice_set p.ends n new })
      × SendsAcross x z v p (record p { net = net; ends = slice_set p.ends n new })
      × IsSamePart p (record p { net = net; ends = slice_set p.ends n new })
  went new net pushed lets =
      let r = is_ready in
      let s = shape p.opening in
      let N = network_of p.net in
      let new_is : new ≡ Leaving (record tx { sent = tx.sent ++ flit ∷ [] }) back =
      landed end new flit tx back (now ∙ end_is) pushed in
      let config = same_when_routed p.net net x _ lets.exact in
      let enabled = subst (λ (q : Shape). Enabled q N (Send x z v)) (part_shape p going.has.part) lets.enabled in
      let after_it : network_of net ≡ record (after s N (Send x z v)) { out = N.out }
      = lets.after_it ∙ ap (λ (q : Shape). record (after q N (Send x z v)) { out = N.out })
      (part_shape p going.has.part) in
      let made = flit_goes p going.has.part x o links.beyond
      (linked_then going.has) net config z v r.channel r.front r.rest tx back end_is there_then
      enabled r.active r.buffer after_it in
      let number_is : n ≡ links_before p.net.mesh x o = going.number ∙ out_is going.has in
      let as_flit : Leaving (record tx { sent = tx.sent ++ with_channel r.front r.channel ∷ [] }) back ≡ new
      = ap (λ (f : Flit). Leaving (record tx { sent = tx.sent ++ f ∷ [] }) back) (sym r.goes_as) ∙ sym new_is in
      let to : with_end p x o (Leaving (record tx { sent = tx.sent ++ with_channel r.front r.channel ∷ [] }) back)
      net ≡ record p { net = net; ends = slice_set p.ends n new }
      = λ t. record p { net = net; ends = slice_set p.ends (sym number_is t) (as_flit t) } in
      let exact : record p { net = net; ends = slice_set p.ends n new }
      ≡ with_end p x o (Leaving (record tx { sent = tx.sent ++ flit ∷ [] }) back)
      (with_router p.net x (after_send (router_at p.net x) z v))
      = λ t. record p { net = lets.exact t; ends = slice_set p.ends (number_is t) (new_is t) } in (
        subst IsPart to made,
        record { out = o; flit = flit; tx = tx; back = back; ready = going.ready; end = end_is; answer = inl exact },
        record { config = config; opening = refl; pairs = refl },
      )

  -- it came back
  pub stayed : (new : End) → FlitPushed end flit false new → (record p { ends = slice_set p.ends n new } ≡ p)
      × SendsAcross x z v p (record p { ends = slice_set p.ends n new })
  stayed new pushed =
      let came = came_back end new flit tx back (now ∙ end_is) pushed in
      let same_end : new ≡ get_or p.ends n end = came.0 ∙ sym (now ∙ end_is) ∙ going.looked in
      let same : record p { ends = slice_set p.ends n new } ≡ p =
      ap (λ (e : End). record p { ends = slice_set p.ends n e }) same_end
      ∙ ap (λ (es : List End). record p { ends = es }) (set-get_or p.ends n end) in (
        same,
        record {
          out = o;
          flit = flit;
          tx = tx;
          back = back;
          ready = going.ready;
          end = end_is;
          answer = inr (same, came.1);
        },
      )

-- A credit that a part may give over the link into a port from another worker's node, and the end of that, looked up.
pub record IsGiving (p : PartState) (x o v : ℕ) (links : PortLinks) (n : ℕ) (end : End) : Type 0 where
  pub has : HasLinks p x o links
  pub comes : ComesBy p x o
  pub node : x < node_count p.net.mesh
  pub channel : v < sum p.net.channels
  pub number : n ≡ links.into
  pub looked : end ≡ get_or p.ends n end

module _ {p : PartState} {x o v : ℕ} {links : PortLinks} {n : ℕ} {end : End}
    (giving : IsGiving p x o v links n end) where
  abbrev rx : RxView
  rx = giving.comes.2.0

  abbrev give : CreditTxView
  give = giving.comes.2.1

  entering_is : end_of p links.beyond (opposite_of o) ≡ Entering rx give
  entering_is =
      let one : ◌≡◌ {A = Option ℕ} (Some links.beyond) (Some giving.comes.0) =
      sym (linked giving.has) ∙ giving.comes.1 in
      let same : links.beyond ≡ giving.comes.0 = cc in
      ap (λ (y : ℕ). end_of p y (opposite_of o)) same ∙ giving.comes.2.2

  entering_now : end ≡ end_of p links.beyond (opposite_of o)
  entering_now = into_looked_up giving.has n end giving.number giving.looked

  entering_facts : IsEnteringEnd p.opening.mesh p.opening.channels links.beyond (opposite_of o)
      (past_of (shape p.opening) (network_of p.opening) links.beyond (opposite_of o) x) (owns p links.beyond)
      (owns p x) rx give
  entering_facts =
      is_entering p giving.has.part links.beyond (opposite_of o) x rx give (back_then giving.has) entering_is

  -- the channel of the port is there to give a credit
  pub giving_there : IsThere (shape p.net) (GiveCredit x o v)
  unfolding net_shape
  giving_there = (giving.node, rw (linked giving.has) refl, giving.channel)

  pub owner_elsewhere : EndsElsewhere (shape p.net) (owned p.net) x o
  unfolding net_shape
  owner_elsewhere =
      subst (λ (end : Option ℕ). IsLinked end (λ y. owned p.net y ≡ false)) (sym (linked giving.has))
      entering_facts.near_elsewhere

  pub may_give : MayGive end v
  may_give =
      let line = entering_facts.line in
      let channels : give.link.channels ≡ sum p.net.channels =
      ap (λ (l : LinkCfg). l.channels) line
      ∙ (entering_facts.link.same_channels
      ∙ ap (λ (counts : List ℕ). sum counts) (sym giving.has.part.config.channels)) in
      subst (λ (e : End). MayGive e v) (sym (entering_now ∙ entering_is))
      (subst (λ (n : ℕ). v < n) (sym channels) giving.channel)

  -- it was given
  pub gave_it : (new : End) (net : NetState) → CreditPushed end v true new → LetsGive p.net x o v net
      → IsPart (record p { net = net; ends = slice_set p.ends n new })
      × GivesAcross x o v p (record p { net = net; ends = slice_set p.ends n new })
      × IsSamePart p (record p { net = net; ends = slice_set p.ends n new })
  unfolding net_shape
  gave_it new net pushed lets =
      let s = shape p.opening in
      let N = network_of p.net in
      let y = links.beyond in
      let q = opposite_of o in
      let new_is : new ≡ Entering rx (record give { sent = give.sent ++ v ∷ [] }) =
      given end new v rx give (entering_now ∙ entering_is) pushed in
      let config = same_when_routed p.net net x _ lets.exact in
      let there_then : IsThere s (GiveCredit x o v) =
      subst (λ (k : Shape). IsThere k (GiveCredit x o v)) (part_shape p giving.has.part) giving_there in
      let enabled = subst (λ (k : Shape). Enabled k N (GiveCredit x o v)) (part_shape p giving.has.part) lets.enabled in
      let after_it : network_of net ≡ record (after s N (GiveCredit x o v)) { credit_list = N.credit_list }
      = lets.after_it ∙ ap (λ (k : Shape). record (after k N (GiveCredit x o v)) { credit_list = N.credit_list })
      (part_shape p giving.has.part) in
      let made = credit_goes p giving.has.part y q x (back_then giving.has) net config o v rx give entering_is
      (linked_then giving.has) refl there_then enabled after_it in
      let number_is : n ≡ links_before p.net.mesh y q = giving.number ∙ into_is giving.has in
      let to : with_end p y q (Entering rx (record give { sent = give.sent ++ v ∷ [] })) net ≡ record p {
        net = net;
        ends = slice_set p.ends n new;
      }
      = λ t. record p { net = net; ends = slice_set p.ends (sym number_is t) (sym new_is t) } in
      let exact : record p { net = net; ends = slice_set p.ends n new }
      ≡ with_end p y q (Entering rx (record give { sent = give.sent ++ v ∷ [] }))
      (with_router p.net x (after_gave (router_at p.net x) o v))
      = λ t. record p { net = lets.exact t; ends = slice_set p.ends (number_is t) (new_is t) } in (
        subst IsPart to made,
        record {
          beyond = y;
          rx = rx;
          give = give;
          linked = linked giving.has;
          end = entering_is;
          answer = inl exact;
        },
        record { config = config; opening = refl; pairs = refl },
      )

  -- it came back
  pub owes_still : (new : End) → CreditPushed end v false new
      → (record p { ends = slice_set p.ends n new } ≡ p)
      × GivesAcross x o v p (record p { ends = slice_set p.ends n new })
  owes_still new pushed =
      let came = not_given end new v rx give (entering_now ∙ entering_is) pushed in
      let same_end : new ≡ get_or p.ends n end = came.0 ∙ sym (entering_now ∙ entering_is) ∙ giving.looked in
      let same : record p { ends = slice_set p.ends n new } ≡ p =
      ap (λ (e : End). record p { ends = slice_set p.ends n e }) same_end
      ∙ ap (λ (es : List End). record p { ends = es }) (set-get_or p.ends n end) in (
        same,
        record {
          beyond = links.beyond;
          rx = rx;
          give = give;
          linked = linked giving.has;
          end = entering_is;
          answer = inr (same, came.1);
        },
      )
