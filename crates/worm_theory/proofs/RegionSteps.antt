-- A part stays a part, whatever steps its owner makes at its nodes.
use Rattle.std.proofs.Common.{◌≡◌, ℕ, Bool, true, false, ◌<◌, inl, inr, List, [], ◌∷◌, ◌++◌, length, Option, Some}
use Rattle.std.proofs.Common.{None, IsSome, refl, sym, ap, ◌∙◌, append_assoc, append-nil}
use Rattle.worm_flit.specs.declared.Lane.{Lane}
use Rattle.worm_flit.specs.declared.Flit.{Flit}
use Rattle.worm_flit.specs.Stamps.{with_channel}
use Rattle.worm_records.specs.declared.InRecord.{InRecord}
use Rattle.worm_records.specs.declared.InRecord.TheVariants.{Idle, Waiting, Active}
use Rattle.worm_theory.specs.Shape.{Shape, IsMesh}
use Rattle.worm_theory.specs.Network.{Network, same, put2}
use Rattle.worm_theory.specs.Steps.{Step, Offer, CloseLane, Feed, Route, Grant, Send, Take, GiveCredit, TakeCredit}
use Rattle.worm_theory.specs.Steps.{Accepts, FrontIs, IsLinked, IsThere, Enabled, after, fed, routed, granted, sent}
use Rattle.worm_theory.specs.Steps.{sent_by, taken, taken_from, gave, gave_to, got, node_of}
use Rattle.worm_theory.proofs.Places.{place_cases, same-true, same-false}
use Rattle.worm_theory.proofs.MeshLaws.{same_end, same_start, is_mesh_start}
use Rattle.worm_theory.specs.Parts.{Parts}
use Rattle.worm_theory.specs.PartSound.{PartHolds}
use Rattle.worm_theory.specs.Links.{MayArrive}
use Rattle.worm_theory.specs.PartSteps.{Own, Arrive, Return, IsLocal, with_near, arrive, feed_part, send_part}
use Rattle.worm_theory.specs.PartSteps.{give_part, return_credit, own_after}
use Rattle.worm_theory.specs.Region.{Since, IsPart, parts_of}
use Rattle.worm_theory.proofs.Bringing.{held_arrive, front_arrives, rest_arrive, still_arrive}
use Rattle.worm_theory.proofs.Moves.{move_holds}

-- an owned node is none that is not owned
pub apart : (own : ℕ → Bool) (x y : ℕ) → own x ≡ true → own y ≡ false → x ≡ y → ⊥
apart own x y owned other e = let both = sym owned ∙ ap own e ∙ other in cc

-- more at the end on both sides
pub grown_by : {X : Type 0} (a b c d : List X) → a ≡ b ++ c → a ++ d ≡ b ++ (c ++ d)
grown_by {X} a b c d e = ap (λ l. l ++ d) e ∙ append_assoc b c d

module _ (s : Shape) (mesh : IsMesh s) (old : Network) (own : ℕ → Bool) (net : Network) (taken_off : ℕ → ℕ → List Flit)
    (returned : ℕ → ℕ → List ℕ) (part : IsPart s old own net taken_off returned) where
  abbrev since : Since
  since = part.since

  abbrev parts : Parts
  parts = parts_of net part.since

  -- where links and all that went over them stay
  kept : (new : Network) → ((y o : ℕ) → new.out y o ≡ net.out y o) →
      ((y o : ℕ) → new.credit_list y o ≡ net.credit_list y o) → PartHolds s old (parts_of new since) →
      IsPart s old own new taken_off returned
  kept new outs lines holds = record {
    since = since;
    holds = holds;
    within = λ y o x linked near far.
        let h = part.within y o x linked near far in
        let e = outs y o in let e2 = lines y o in record { sent = rw e h.sent; given = rw e2 h.given };
    leaving = λ y o x linked near far.
        let e = outs y o in let e2 = lines y o in rw (e, e2) (part.leaving y o x linked near far);
    entering = λ y o x linked near far.
        let h = part.entering y o x linked near far in
        let e = outs y o in
        let e2 = lines y o in (
          rw e h.0,
          rw e (still_arrive s old parts x (s.opposite o) (parts_of new since) (net.out y o) refl h.1),
          rw e2 h.2,
        );
    ends = λ x o none near. let e = outs x o in rw e (part.ends x o none near);
  }

  -- a flit is fed: no link is touched
  module _ (x k : ℕ) (f : Flit) (rest : List Flit) where
    abbrev fed_since : Since
    fed_since =
        record part.since {
          arrived =
              put2 part.since.arrived x s.terminal (part.since.arrived x s.terminal ++ with_channel f (s.first k) ∷
              []);
        }

    off_source : (y o x2 : ℕ) → s.neighbour y o ≡ Some x2 →
        fed_since.arrived x2 (s.opposite o) ≡ since.arrived x2 (s.opposite o)
    off_source y o x2 linked =
        let away : same x2 (s.opposite o) x s.terminal ≡ false =
        same-false x2 (s.opposite o) x s.terminal (λ _ e. is_mesh_start s mesh y o x2 linked e) in rw away refl

    feed_region : PartHolds s old (feed_part s parts x k (f ∷ rest)) →
        IsPart s old own (fed s net x k (f ∷ rest)) taken_off returned
    feed_region holds = record {
      since = fed_since;
      holds = holds;
      within = λ y o x2 linked near far.
          let h = part.within y o x2 linked near far in
          record { sent = h.sent ∙ ap (λ l. l ++ net.out y o) (sym (off_source y o x2 linked)); given = h.given };
      leaving = part.leaving;
      entering = λ y o x2 linked near far.
          let h = part.entering y o x2 linked near far in (
            h.0 ∙ ap (λ l. l ++ net.out y o) (sym (off_source y o x2 linked)),
            still_arrive s old parts x2 (s.opposite o) (parts_of (fed s net x k (f ∷ rest)) fed_since) (net.out y o)
                (off_source y o x2 linked) h.1,
            h.2,
          );
      ends = part.ends;
    }

  -- a flit is sent: its link has it last
  module _ (x p v o c : ℕ) (here : own x ≡ true) (f : Flit) (rest : List Flit) where
    abbrev sent_since : Since
    sent_since = record part.since {
      sent = put2 part.since.sent x o (part.since.sent x o ++ with_channel f c ∷ []);
      departed = put2 part.since.departed x p (part.since.departed x p ++ f ∷ []);
    }

    abbrev sent_net : Network
    sent_net = sent_by s net x p v o c f rest

    more_sent : (y o2 : ℕ) → (d : List Flit) × (sent_since.sent y o2 ≡ since.sent y o2 ++ d) ×
        (sent_net.out y o2 ≡ net.out y o2 ++ d)
    more_sent y o2 =
        elim (place_cases y o2 x o) [
          | inl at ↦ (with_channel f c ∷ [], rw (at.0, at.1, at.2) refl, rw (at.0, at.1, at.2) refl)
          | inr away ↦
              ([], rw away.0 (sym (append-nil (since.sent y o2))), rw away.0 (sym (append-nil (net.out y o2))))
        ]

    send_region : PartHolds s old (send_part s parts x p v (Active o c) (f ∷ rest)) →
        IsPart s old own sent_net taken_off returned
    send_region holds = record {
      since = sent_since;
      holds = holds;
      within = λ y o2 x2 linked near far.
          let h = part.within y o2 x2 linked near far in
          let more = more_sent y o2 in
          record {
            sent =
                more.1 ∙ grown_by (since.sent y o2) (since.arrived x2 (s.opposite o2)) (net.out y o2) more.0 h.sent ∙
                ap (λ l. since.arrived x2 (s.opposite o2) ++ l) (sym more.2);
            given = h.given;
          };
      leaving = λ y o2 x2 linked near far.
          let h = part.leaving y o2 x2 linked near far in
          let more = more_sent y o2 in (
            more.1 ∙ grown_by (since.sent y o2) (old.out y o2) (net.out y o2) more.0 h.0 ∙
                ap (λ l. old.out y o2 ++ l) (sym more.2),
            h.1,
          );
      entering = λ y o2 x2 linked near far.
          let h = part.entering y o2 x2 linked near far in
          let away : same y o2 x o ≡ false = same-false y o2 x o (λ e _. apart own x y here near (sym e)) in
          rw away (
            h.0,
            still_arrive s old parts x2 (s.opposite o2) (parts_of sent_net sent_since)
                (net.out y o2) refl h.1,
            h.2,
          );
      ends = λ x2 o2 none near.
          let more = more_sent x2 o2 in
          more.1 ∙ ap (λ l. l ++ more.0) (part.ends x2 o2 none near) ∙ sym more.2;
    }

  -- a flit is taken: it goes from the front of its link to the end of what arrived
  module _ (x p y : ℕ) (here : own x ≡ true) (linked : s.neighbour x p ≡ Some y) (f : Flit) (rest : List Flit)
      (front : net.out y (s.opposite p) ≡ f ∷ rest) where
    abbrev came_since : Since
    came_since = record part.since { arrived = put2 part.since.arrived x p (part.since.arrived x p ++ f ∷ []) }

    abbrev came_net : Network
    came_net = taken_from net x p y (s.opposite p) (f ∷ rest)

    -- what arrived and what is on its link are, one after the other, what they were
    same_together : (y2 o2 x2 : ℕ) → s.neighbour y2 o2 ≡ Some x2 →
        came_since.arrived x2 (s.opposite o2) ++ came_net.out y2 o2 ≡ since.arrived x2 (s.opposite o2) ++ net.out y2 o2
    same_together y2 o2 x2 n2 =
        elim (place_cases y2 o2 y (s.opposite p)) [
          | inl at ↦
              let ends = same_end s mesh x p y linked y2 o2 x2 n2 at.1 at.2 in
              let there : same x2 (s.opposite o2) x p ≡ true = same-true x2 (s.opposite o2) x p ends.0 ends.1 in
              let line : net.out y2 o2 ≡ f ∷ rest = cc in
              let list : since.arrived x p ≡ since.arrived x2 (s.opposite o2) =
              ap (λ z. since.arrived z p) (sym ends.0) ∙ ap (λ q. since.arrived x2 q) (sym ends.1) in
              rw (there, at.0, line, list) (append_assoc (since.arrived x2 (s.opposite o2)) (f ∷ []) rest)
          | inr away ↦
              let there : same x2 (s.opposite o2) x p ≡ false =
              same-false x2 (s.opposite o2) x p (λ e1 e2.
              let starts = same_start s mesh x p y linked y2 o2 x2 n2 e1 e2 in away.1 starts.0 starts.1) in
              rw (there, away.0) refl
        ]

    elsewhere : (y2 o2 : ℕ) → (y2 ≡ y → o2 ≡ s.opposite p → ⊥) → came_net.out y2 o2 ≡ net.out y2 o2
    elsewhere y2 o2 other =
        let away : same y2 o2 y (s.opposite p) ≡ false = same-false y2 o2 y (s.opposite p) other in rw away refl

    still : (y2 o2 x2 : ℕ) → s.neighbour y2 o2 ≡ Some x2 → MayArrive s old parts x2 (s.opposite o2) (net.out y2 o2) →
        MayArrive s old (parts_of came_net came_since) x2 (s.opposite o2) (came_net.out y2 o2)
    still y2 o2 x2 n2 may =
        elim (place_cases y2 o2 y (s.opposite p)) [
          | inl at ↦
              let ends = same_end s mesh x p y linked y2 o2 x2 n2 at.1 at.2 in
              let line : net.out y2 o2 ≡ f ∷ rest = cc in
              let list : MayArrive s old parts x p (f ∷ rest) = rw (ends.0, ends.1, line) at may in
              let left =
              still_arrive s old (arrive parts x p f) x p (parts_of came_net came_since) rest refl
              (rest_arrive s old parts x p f rest list) in
              rw (ends.0, ends.1, at.0) left
          | inr away ↦
              let there : same x2 (s.opposite o2) x p ≡ false =
              same-false x2 (s.opposite o2) x p (λ e1 e2.
              let starts = same_start s mesh x p y linked y2 o2 x2 n2 e1 e2 in away.1 starts.0 starts.1) in
              let unchanged : came_since.arrived x2 (s.opposite o2) ≡ since.arrived x2 (s.opposite o2) =
              rw there refl in
              rw away.0 (still_arrive s old parts x2 (s.opposite o2) (parts_of came_net came_since)
              (net.out y2 o2) unchanged may)
        ]

    take_region : PartHolds s old (arrive parts x p f) → IsPart s old own came_net taken_off returned
    take_region holds = record {
      since = came_since;
      holds = holds;
      within = λ y2 o2 x2 n2 near far.
          let h = part.within y2 o2 x2 n2 near far in
          record { sent = h.sent ∙ sym (same_together y2 o2 x2 n2); given = h.given };
      leaving = λ y2 o2 x2 n2 near far.
          let h = part.leaving y2 o2 x2 n2 near far in
          let kept_there =
          elsewhere y2 o2 (λ e1 e2. apart own x x2 here far
          (sym (same_end s mesh x p y linked y2 o2 x2 n2 e1 e2).0)) in
          (h.0 ∙ ap (λ l. old.out y2 o2 ++ l) (sym kept_there), h.1);
      entering = λ y2 o2 x2 n2 near far.
          let h = part.entering y2 o2 x2 n2 near far in
          (h.0 ∙ sym (same_together y2 o2 x2 n2), still y2 o2 x2 n2 h.1, h.2);
      ends = λ x2 o2 none near.
          let back = mesh.link_back x p y linked in
          let kept_there =
          elsewhere x2 o2 (λ e1 e2.
          let clash : s.neighbour y (s.opposite p) ≡ None =
          ap (λ z. s.neighbour z (s.opposite p)) (sym e1) ∙ ap (s.neighbour x2) (sym e2) ∙ none in
          let both = sym back ∙ clash in cc) in
          part.ends x2 o2 none near ∙ sym kept_there;
    }

    -- what is first on a link of an owned node may arrive
    pub first_arrives : MayArrive s old parts x p (f ∷ [])
    first_arrives =
        let back = mesh.link_back x p y linked in
        let twice = mesh.opposite_twice x p y linked in
        let all : MayArrive s old parts x p (f ∷ rest) = by_owner (own y) refl in
        front_arrives s old parts x p f rest all
      where
        by_owner : (b : Bool) → own y ≡ b → MayArrive s old parts x p (f ∷ rest)
        by_owner true e =
            let back = mesh.link_back x p y linked in
            let twice = mesh.opposite_twice x p y linked in
            rw (twice, front) at (held_arrive s mesh old parts part.holds.sound y (s.opposite p) x back
            (net.out y (s.opposite p)) (net.credit_list y (s.opposite p)) (part.within y (s.opposite p) x back e here))
        by_owner false e =
            let back = mesh.link_back x p y linked in
            let twice = mesh.opposite_twice x p y linked in
            rw (twice, front) at (part.entering y (s.opposite p) x back e here).1

  -- a credit is given: the credit line of the link by which the flit came has it last
  module _ (x p v y : ℕ) (here : own x ≡ true) (linked : s.neighbour x p ≡ Some y) where
    abbrev given_since : Since
    given_since = record part.since { given = put2 part.since.given x p (part.since.given x p ++ v ∷ []) }

    abbrev given_net : Network
    given_net = gave_to net x p v y (s.opposite p)

    more_given : (y2 o2 x2 : ℕ) → s.neighbour y2 o2 ≡ Some x2 →
        (d : List ℕ) × (given_since.given x2 (s.opposite o2) ≡ since.given x2 (s.opposite o2) ++ d) ×
        (given_net.credit_list y2 o2 ≡ net.credit_list y2 o2 ++ d)
    more_given y2 o2 x2 n2 =
        elim (place_cases y2 o2 y (s.opposite p)) [
          | inl at ↦
              let ends = same_end s mesh x p y linked y2 o2 x2 n2 at.1 at.2 in
              let there : same x2 (s.opposite o2) x p ≡ true = same-true x2 (s.opposite o2) x p ends.0 ends.1 in
              let list : since.given x p ≡ since.given x2 (s.opposite o2) =
              ap (λ z. since.given z p) (sym ends.0) ∙ ap (λ q. since.given x2 q) (sym ends.1) in
              let line : net.credit_list y (s.opposite p) ≡ net.credit_list y2 o2 =
              ap (λ z. net.credit_list z (s.opposite p)) (sym at.1) ∙ ap (net.credit_list y2) (sym at.2) in
              (v ∷ [], rw (there, list) refl, rw (at.0, line) refl)
          | inr away ↦
              let there : same x2 (s.opposite o2) x p ≡ false =
              same-false x2 (s.opposite o2) x p (λ e1 e2.
              let starts = same_start s mesh x p y linked y2 o2 x2 n2 e1 e2 in away.1 starts.0 starts.1) in (
                [],
                rw there (sym (append-nil (since.given x2 (s.opposite o2)))),
                rw away.0 (sym (append-nil (net.credit_list y2 o2))),
              )
        ]

    give_region : PartHolds s old (give_part parts x p v) → IsPart s old own given_net taken_off returned
    give_region holds = record {
      since = given_since;
      holds = holds;
      within = λ y2 o2 x2 n2 near far.
          let h = part.within y2 o2 x2 n2 near far in
          let more = more_given y2 o2 x2 n2 in
          record {
            sent = h.sent;
            given =
                more.1 ∙ grown_by (since.given x2 (s.opposite o2)) (since.counted y2 o2)
                (net.credit_list y2 o2) more.0 h.given ∙ ap (λ l. since.counted y2 o2 ++ l) (sym more.2);
          };
      leaving = λ y2 o2 x2 n2 near far.
          let h = part.leaving y2 o2 x2 n2 near far in
          let away : same y2 o2 y (s.opposite p) ≡ false =
          same-false y2 o2 y (s.opposite p)
          (λ e1 e2. apart own x x2 here far (sym (same_end s mesh x p y linked y2 o2 x2 n2 e1 e2).0)) in
          rw away h;
      entering = λ y2 o2 x2 n2 near far.
          let h = part.entering y2 o2 x2 n2 near far in
          let more = more_given y2 o2 x2 n2 in (
            h.0,
            still_arrive s old parts x2 (s.opposite o2) (parts_of given_net given_since) (net.out y2 o2) refl h.1,
            more.1 ∙ grown_by (since.given x2 (s.opposite o2)) (old.credit_list y2 o2)
                (net.credit_list y2 o2) more.0 h.2 ∙ ap (λ l. old.credit_list y2 o2 ++ l) (sym more.2),
          );
      ends = part.ends;
    }

  -- a credit is counted: it goes from the front of its credit line to the end of what was counted
  module _ (x o c : ℕ) (rest : List ℕ) (here : own x ≡ true) (front : net.credit_list x o ≡ c ∷ rest) where
    abbrev counted_since : Since
    counted_since = record part.since { counted = put2 part.since.counted x o (part.since.counted x o ++ c ∷ []) }

    abbrev counted_net : Network
    counted_net = got net x o (c ∷ rest)

    counted_together : (y o2 : ℕ) → counted_since.counted y o2 ++ counted_net.credit_list y o2 ≡
        since.counted y o2 ++ net.credit_list y o2
    counted_together y o2 =
        elim (place_cases y o2 x o) [
          | inl at ↦
              let line : net.credit_list y o2 ≡ c ∷ rest = cc in
              let list : since.counted x o ≡ since.counted y o2 =
              ap (λ z. since.counted z o) (sym at.1) ∙ ap (λ q. since.counted y q) (sym at.2) in
              rw (at.0, line, list) (append_assoc (since.counted y o2) (c ∷ []) rest)
          | inr away ↦ rw away.0 refl
        ]

    count_region : PartHolds s old (return_credit parts x o c) → IsPart s old own counted_net taken_off returned
    count_region holds = record {
      since = counted_since;
      holds = holds;
      within = λ y o2 x2 n2 near far.
          let h = part.within y o2 x2 n2 near far in
          record { sent = h.sent; given = h.given ∙ sym (counted_together y o2) };
      leaving = λ y o2 x2 n2 near far.
          let h = part.leaving y o2 x2 n2 near far in (h.0, h.1 ∙ sym (counted_together y o2));
      entering = λ y o2 x2 n2 near far.
          let h = part.entering y o2 x2 n2 near far in
          let away : same y o2 x o ≡ false = same-false y o2 x o (λ e _. apart own x y here near (sym e)) in
          rw away (
            h.0,
            still_arrive s old parts x2 (s.opposite o2) (parts_of counted_net counted_since)
                (net.out y o2) refl h.1,
            h.2,
          );
      ends = part.ends;
    }

  -- the moves of the part's nodes
  accepts : (x : ℕ) (lane : Lane) → Accepts s net x lane → Accepts s parts.near x lane
  accepts x lane h = record { own = h.own; lane_there = h.lane_there; is_open = h.is_open; room = h.room }

  own_holds : (step : Step) → IsThere s step → IsLocal step → Enabled s parts.near step →
      PartHolds s old (own_after s parts step)
  own_holds step there local enabled = move_holds s mesh old parts part.holds (Own step) there (local, enabled)

  feed_on : (x k : ℕ) (fs : List Flit) → PartHolds s old (feed_part s parts x k fs) →
      IsPart s old own (fed s net x k fs) taken_off returned
  feed_on x k [] holds = part
  feed_on x k (f ∷ rest) holds = feed_region x k f rest holds

  route_on : (x p v : ℕ) (fs : List Flit) → PartHolds s old (with_near parts (routed s parts.near x p v fs)) →
      IsPart s old own (routed s net x p v fs) taken_off returned
  route_on x p v [] holds = part
  route_on x p v (f ∷ rest) holds = kept (routed s net x p v (f ∷ rest)) (λ y o. refl) (λ y o. refl) holds

  grant_on : (x p v c : ℕ) (r : InRecord) → PartHolds s old (with_near parts (granted parts.near x p v c r)) →
      IsPart s old own (granted net x p v c r) taken_off returned
  grant_on x p v c Idle holds = part
  grant_on x p v c (Waiting o) holds = kept (granted net x p v c (Waiting o)) (λ y q. refl) (λ y q. refl) holds
  grant_on x p v c (Active o d) holds = part

  send_on : (x p v : ℕ) (r : InRecord) (fs : List Flit) → own x ≡ true →
      PartHolds s old (send_part s parts x p v r fs) → IsPart s old own (sent s net x p v r fs) taken_off returned
  send_on x p v Idle fs here holds = part
  send_on x p v (Waiting o) fs here holds = part
  send_on x p v (Active o c) [] here holds = part
  send_on x p v (Active o c) (f ∷ rest) here holds = send_region x p v o c here f rest holds

  take_front : (x p y : ℕ) (fs : List Flit) → own x ≡ true → x < s.nodes → s.neighbour x p ≡ Some y →
      net.out y (s.opposite p) ≡ fs → FrontIs fs (λ f. length (net.buffer x p f.vc) < s.depth) →
      IsPart s old own (taken_from net x p y (s.opposite p) fs) taken_off returned
  take_front x p y [] here in_mesh linked e front = absurd front
  take_front x p y (f ∷ rest) here in_mesh linked e room =
      take_region x p y here linked f rest e
      (move_holds s mesh old parts part.holds (Arrive x p f) (
        in_mesh,
        rw linked refl,
      ) (first_arrives x p y here linked f rest e, room))

  take_on : (x p : ℕ) (end : Option ℕ) → own x ≡ true → x < s.nodes → s.neighbour x p ≡ end →
      IsLinked end (λ y. FrontIs (net.out y (s.opposite p)) (λ f. length (net.buffer x p f.vc) < s.depth)) →
      IsPart s old own (taken s net x p end) taken_off returned
  take_on x p None here in_mesh e h = absurd h
  take_on x p (Some y) here in_mesh e h = take_front x p y (net.out y (s.opposite p)) here in_mesh e refl h

  give_on : (x p v : ℕ) (end : Option ℕ) → own x ≡ true → s.neighbour x p ≡ end →
      PartHolds s old (give_part parts x p v) → IsPart s old own (gave s net x p v end) taken_off returned
  give_on x p v None here e holds = part
  give_on x p v (Some y) here e holds = give_region x p v y here e holds

  count_on : (x o : ℕ) (cs : List ℕ) → own x ≡ true → x < s.nodes → IsSome (s.neighbour x o) →
      net.credit_list x o ≡ cs → IsPart s old own (got net x o cs) taken_off returned
  count_on x o [] here in_mesh linked e = part
  count_on x o (c ∷ rest) here in_mesh linked e =
      count_region x o c rest here e (move_holds s mesh old parts part.holds (Return x o c) (in_mesh, linked) tt)

  -- Each step of the network, made at an owned node, keeps the part.
  pub step_region : (step : Step) → own (node_of step) ≡ true → IsThere s step → Enabled s net step →
      IsPart s old own (after s net step) taken_off returned
  step_region (Offer x lane words) here there h =
      kept (after s net (Offer x lane words)) (λ y o. refl) (λ y o. refl)
      (own_holds (Offer x lane words) there tt (accepts x lane h.0, h.1, h.2))
  step_region (CloseLane x lane) here there h =
      kept (after s net (CloseLane x lane)) (λ y o. refl) (λ y o. refl)
      (own_holds (CloseLane x lane) there tt (accepts x lane h.0, h.1))
  step_region (Feed x k) here there h = feed_on x k (net.unfed x k) (own_holds (Feed x k) there tt h)
  step_region (Route x p v) here there h = route_on x p v (net.buffer x p v) (own_holds (Route x p v) there tt h)
  step_region (Grant x p v c) here there h =
      grant_on x p v c (net.in_record x p v) (own_holds (Grant x p v c) there tt h)
  step_region (Send x p v) here there h =
      send_on x p v (net.in_record x p v) (net.buffer x p v) here (own_holds (Send x p v) there tt h)
  step_region (Take x p) here there h = take_on x p (s.neighbour x p) here there.0 refl h
  step_region (GiveCredit x p v) here there h =
      give_on x p v (s.neighbour x p) here refl (own_holds (GiveCredit x p v) there tt h)
  step_region (TakeCredit x o) here there h = count_on x o (net.credit_list x o) here there.0 there.1 refl
