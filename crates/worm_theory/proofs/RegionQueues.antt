-- What goes between parts: what a part pushes, what it pulls, its split from a network, and the parts put together.
use Rattle.std.proofs.Common.{◌≡◌, ℕ, Bool, true, false, ◌==◌, inl, inr, cond, List, [], ◌∷◌, ◌++◌, Some, refl, sym}
use Rattle.std.proofs.Common.{ap, subst, ◌∙◌, append_assoc, append-nil, eq-eqb}
use Rattle.worm_flit.specs.declared.Flit.{Flit}
use Rattle.worm_flit.specs.Stamps.{with_channel}
use Rattle.worm_records.specs.declared.InRecord.TheVariants.{Active}
use Rattle.worm_theory.specs.Shape.{Shape, IsMesh}
use Rattle.worm_theory.specs.Network.{Network, SamePlaces, same, put2}
use Rattle.worm_theory.specs.Steps.{FrontIs, IsPort}
use Rattle.worm_theory.specs.Sound.{Leaves}
use Rattle.worm_theory.specs.Growth.{SinksGrow, SourcesGrow}
use Rattle.worm_theory.proofs.Places.{bool_cases, number_cases, place_cases, same-false}
use Rattle.worm_theory.proofs.Bridge.{same_network}
use Rattle.worm_theory.specs.Parts.{Parts, split, gathered}
use Rattle.worm_theory.specs.PartSound.{PartHolds}
use Rattle.worm_theory.specs.Links.{LinkHolds, GoesOn, MayArrive}
use Rattle.worm_theory.specs.Join.{Holds, IsRest}
use Rattle.worm_theory.specs.Region.{Since, IsPart, HasPart, Begins, among, parts_of}
use Rattle.worm_theory.specs.Whole.{AreQueues, link_of, line_of, whole}
use Rattle.worm_theory.proofs.Split.{split_holds, gather_holds}
use Rattle.worm_theory.proofs.Join.{join_holds, join_sinks, join_sources}
use Rattle.worm_theory.proofs.Moves.{front_may_push}
use Rattle.worm_theory.proofs.Bringing.{held_arrive, more_arrive, still_arrive, split_link_holds}
use Rattle.worm_theory.proofs.RegionSteps.{apart, grown_by}

module _ (s : Shape) (mesh : IsMesh s) (old : Network) (own : ℕ → Bool) (net : Network) (taken : ℕ → ℕ → List Flit)
    (returned : ℕ → ℕ → List ℕ) (part : IsPart s old own net taken returned) where
  abbrev parts : Parts
  parts = parts_of net part.since

  -- what a part sends on a link that leaves it may go onto its queue
  pub region_push : (x p v o c z : ℕ) (f : Flit) → own x ≡ true → own z ≡ false → s.neighbour x o ≡ Some z →
      IsPort s x p → net.in_record x p v ≡ Active o c → FrontIs (net.buffer x p v) (λ front. front ≡ f) →
      GoesOn old z (s.opposite o) (old.out x o ++ net.out x o) (with_channel f c) × Leaves s x o (with_channel f c)
  region_push x p v o c z f here there linked port active front =
      let push = front_may_push s mesh old parts part.holds x p v o c f active front port in
      let all = (part.leaving x o z linked here there).0 in
      (rw all at (push.follows z linked), push.crosses)

  module _ (y o x : ℕ) (linked : s.neighbour y o ≡ Some x) where
    -- a flit comes off the queue of a link that enters the part
    pub pull_region : (f : Flit) → own y ≡ false → own x ≡ true →
        GoesOn old x (s.opposite o) (old.out y o ++ taken y o) f → Leaves s y o f →
        IsPart s old own (record net { out = put2 net.out y o (net.out y o ++ f ∷ []) })
        (put2 taken y o (taken y o ++ f ∷ [])) returned
    pull_region f far near next leaves = record {
      since = part.since;
      holds = part.holds;
      within = λ y2 o2 x2 n2 own_y own_x.
          let h = part.within y2 o2 x2 n2 own_y own_x in
          let away : same y2 o2 y o ≡ false = same-false y2 o2 y o (λ e _. apart own y2 y own_y far e) in
          record { sent = rw away h.sent; given = h.given };
      leaving = λ y2 o2 x2 n2 own_y own_x.
          let h = part.leaving y2 o2 x2 n2 own_y own_x in
          let away : same y2 o2 y o ≡ false = same-false y2 o2 y o (λ e _. apart own y2 y own_y far e) in
          rw away h;
      entering = λ y2 o2 x2 n2 own_y own_x. entered y2 o2 x2 n2 own_y own_x;
      ends = λ x2 o2 none own_x.
          let away : same x2 o2 y o ≡ false = same-false x2 o2 y o (λ e _. apart own x2 y own_x far e) in
          rw away (part.ends x2 o2 none own_x);
    }
      where
        more : MayArrive s old parts x (s.opposite o) (net.out y o ++ f ∷ [])
        more =
            let h = part.entering y o x linked far near in
            let all = h.0 in
            let back = mesh.link_back y o x linked in
            let twice = mesh.opposite_twice y o x linked in
            more_arrive s old parts x (s.opposite o) (net.out y o) f h.1 (rw all at next) (λ z e.
            let same_node : z ≡ y = cc in rw (twice, same_node) leaves)

        new : Network
        new = record net { out = put2 net.out y o (net.out y o ++ f ∷ []) }

        entered : (y2 o2 x2 : ℕ) → s.neighbour y2 o2 ≡ Some x2 → own y2 ≡ false → own x2 ≡ true →
            (old.out y2 o2 ++ put2 taken y o (taken y o ++ f ∷ []) y2 o2 ≡
            part.since.arrived x2 (s.opposite o2) ++ new.out y2 o2) ×
            MayArrive s old (parts_of new part.since) x2 (s.opposite o2) (new.out y2 o2) ×
            (part.since.given x2 (s.opposite o2) ≡ old.credit_list y2 o2 ++ net.credit_list y2 o2)
        entered y2 o2 x2 n2 own_y own_x =
            let h = part.entering y2 o2 x2 n2 own_y own_x in
            elim (place_cases y2 o2 y o) [
              | inl at ↦
                  let node : x2 ≡ x = cc in
                  let order = part.entering y o x linked far near in
                  let both : old.out y o ++ (taken y o ++ f ∷ []) ≡
                  part.since.arrived x (s.opposite o) ++ (net.out y o ++ f ∷ []) =
                  sym (append_assoc (old.out y o) (taken y o) (f ∷ [])) ∙
                  grown_by (old.out y o ++ taken y o) (part.since.arrived x (s.opposite o)) (net.out y o)
                  (f ∷ []) order.0 in
                  rw (at.0, at.1, at.2, node) (
                    both,
                    still_arrive s old parts x (s.opposite o) (parts_of new part.since)
                        (net.out y o ++ f ∷ []) refl more,
                    order.2,
                  )
              | inr away ↦
                  rw away.0 (
                    h.0,
                    still_arrive s old parts x2 (s.opposite o2) (parts_of new part.since)
                        (net.out y2 o2) refl h.1,
                    h.2,
                  )
            ]

    -- a credit comes off the queue of the credit line of a link that leaves the part
    pub pull_credit_region : (c : ℕ) → own y ≡ true → own x ≡ false →
        IsPart s old own (record net { credit_list = put2 net.credit_list y o (net.credit_list y o ++ c ∷ []) }) taken
        (put2 returned y o (returned y o ++ c ∷ []))
    pull_credit_region c near far = record {
      since = part.since;
      holds = part.holds;
      within = λ y2 o2 x2 n2 own_y own_x.
          let h = part.within y2 o2 x2 n2 own_y own_x in
          let away : same y2 o2 y o ≡ false =
          same-false y2 o2 y o (λ e1 e2. apart own x2 x own_x far (let one : x2 ≡ x = cc in one)) in
          record { sent = h.sent; given = rw away h.given };
      leaving = λ y2 o2 x2 n2 own_y own_x.
          let h = part.leaving y2 o2 x2 n2 own_y own_x in
          elim (place_cases y2 o2 y o) [
            | inl at ↦
                let order = (part.leaving y o x linked near far).1 in
                let both : old.credit_list y o ++ (returned y o ++ c ∷ []) ≡
                part.since.counted y o ++ (net.credit_list y o ++ c ∷ []) =
                sym (append_assoc (old.credit_list y o) (returned y o) (c ∷ [])) ∙
                grown_by (old.credit_list y o ++ returned y o) (part.since.counted y o) (net.credit_list y o)
                (c ∷ []) order in
                (h.0, rw (at.0, at.1, at.2) both)
            | inr away ↦ rw away.0 h
          ];
      entering = λ y2 o2 x2 n2 own_y own_x.
          let h = part.entering y2 o2 x2 n2 own_y own_x in
          let away : same y2 o2 y o ≡ false = same-false y2 o2 y o (λ e _. apart own y y2 near own_y (sym e)) in (
            h.0,
            still_arrive s old parts x2 (s.opposite o2)
                (parts_of (record net { credit_list = put2 net.credit_list y o (net.credit_list y o ++ c ∷ []) })
                part.since) (net.out y2 o2) refl h.1,
            rw away h.2,
          );
      ends = part.ends;
    }

-- what a part has at first
module _ (s : Shape) (mesh : IsMesh s) (old : Network) (own : ℕ → Bool) (was : Holds s old) (net : Network)
    (first : Begins s old own net) where
  abbrev at_first : Since
  at_first =
      record {
        sent = old.out;
        counted = λ y o. [];
        arrived = λ x p. [];
        departed = λ x p. [];
        given = (split s old).given;
      }

  -- at the split the owned nodes are those of the network
  nodes_same : SamePlaces (split s old).near (parts_of (among own net old) at_first).near
  nodes_same = record {
    buffer = λ x p v. sym (at_place x (net.buffer x) (old.buffer x) p v (first.buffer x p v));
    in_record = λ x p v. sym (at_place x (net.in_record x) (old.in_record x) p v (first.in_record x p v));
    last_out = λ x p v. sym (at_place x (net.last_out x) (old.last_out x) p v (first.last_out x p v));
    owed = λ x p v. sym (at_place x (net.owed x) (old.owed x) p v (first.owed x p v));
    holder = λ x o c. sym (at_place x (net.holder x) (old.holder x) o c (first.holder x o c));
    credits = λ x o c. sym (at_place x (net.credits x) (old.credits x) o c (first.credits x o c));
    out = λ x o. refl;
    credit_list = λ x o. refl;
    injected = λ x k. sym (at_class x (net.injected x) (old.injected x) k (first.injected x k));
    unfed = λ x k. sym (at_class x (net.unfed x) (old.unfed x) k (first.unfed x k));
  }
    where
      at_place : {X : Type 0} (x : ℕ) (f g : ℕ → ℕ → X) (p v : ℕ) → (own x ≡ true → f p v ≡ g p v) →
          cond (own x) f g p v ≡ g p v
      at_place {X} x f g p v same = elim (bool_cases (own x)) [ inl on ↦ rw on (same on) | inr off ↦ rw off refl ]

      at_class : {X : Type 0} (x : ℕ) (f g : ℕ → X) (k : ℕ) → (own x ≡ true → f k ≡ g k) → cond (own x) f g k ≡ g k
      at_class {X} x f g k same = elim (bool_cases (own x)) [ inl on ↦ rw on (same on) | inr off ↦ rw off refl ]

  first_holds : PartHolds s old (parts_of (among own net old) at_first)
  first_holds =
      subst (λ (near : Network). PartHolds s old (record (split s old) { near = near }))
      (same_network (split s old).near (parts_of (among own net old) at_first).near nodes_same)
      (split_holds s mesh old was)

  pub first_part : HasPart s old own net (λ y o. []) (λ y o. [])
  first_part = record {
    since = at_first;
    holds = first_holds;
    within = λ y o x linked near far.
        let h = split_link_holds s mesh old y o x linked in
        let as_was = first.within y o x linked near far in
        record { sent = sym as_was.0; given = h.given ∙ sym as_was.1 };
    leaving = λ y o x linked near far.
        let as_was = first.leaving y o x linked near far in (
          sym (append-nil (old.out y o)) ∙ ap (λ l. old.out y o ++ l) (sym as_was.0),
          append-nil (old.credit_list y o) ∙
              sym as_was.1,
        );
    entering = λ y o x linked far near.
        let h = split_link_holds s mesh old y o x linked in
        let as_was = first.entering y o x linked far near in
        let may =
        held_arrive s mesh old (split s old) (split_holds s mesh old was).sound y o x linked (old.out y o)
        (old.credit_list y o) h in
        let list = as_was.0 in (
          append-nil (old.out y o) ∙ sym as_was.0,
          rw list (still_arrive s old (split s old) x (s.opposite o) (parts_of (among own net old) at_first)
              (old.out y o) refl may),
          h.given ∙ sym (append-nil (old.credit_list y o)) ∙ ap (λ l. old.credit_list y o ++ l) (sym as_was.1),
        );
    ends = λ x o none near. sym (first.ends x o none near);
  }

-- the parts put together
module _ (s : Shape) (mesh : IsMesh s) (old : Network) (was : Holds s old) (owner : ℕ → ℕ) (net : ℕ → Network)
    (taken : ℕ → ℕ → ℕ → List Flit) (returned : ℕ → ℕ → ℕ → List ℕ)
    (part : (k : ℕ) → IsPart s old (λ x. owner x == k) (net k) (taken k) (returned k)) (flits : ℕ → ℕ → List Flit)
    (credits : ℕ → ℕ → List ℕ) (queues : AreQueues s owner net taken returned flits credits) where
  abbrev all_parts : Parts
  all_parts = gathered (λ x. parts_of (net (owner x)) (part (owner x)).since)

  owned : (x : ℕ) → (owner x == owner x) ≡ true
  owned x = eq-eqb (owner x) (owner x) refl

  link_rest : (y o x : ℕ) → s.neighbour y o ≡ Some x →
      LinkHolds s all_parts y o x (link_of owner net flits y o (Some x)) (line_of owner net credits y o (Some x))
  link_rest y o x linked =
      elim (number_cases (owner y) (owner x)) [
        | inl one ↦
            let none = queues.within y o x linked one.1 in
            let own_y : (owner y == owner x) ≡ true = one.0 in
            let h = (part (owner x)).within y o x linked own_y (owned x) in
            let sent_by_owner : (part (owner y)).since.sent y o ≡ (part (owner x)).since.sent y o =
            ap (λ k. (part k).since.sent y o) one.1 in
            let counted_by_owner : (part (owner y)).since.counted y o ≡ (part (owner x)).since.counted y o =
            ap (λ k. (part k).since.counted y o) one.1 in
            let line_by_owner : (net (owner y)).credit_list y o ≡ (net (owner x)).credit_list y o =
            ap (λ k. (net k).credit_list y o) one.1 in
            record {
              sent =
                  sent_by_owner ∙ h.sent ∙ ap (λ l. (part (owner x)).since.arrived x (s.opposite o) ++ l)
                  (sym (append-nil ((net (owner x)).out y o)) ∙ ap (λ l. (net (owner x)).out y o ++ l) (sym none.0));
              given =
                  h.given ∙ ap (λ l. l ++ (net (owner x)).credit_list y o) (sym counted_by_owner) ∙
                  ap (λ l. (part (owner y)).since.counted y o ++ l) (sym line_by_owner ∙
                  sym (append-nil ((net (owner y)).credit_list y o)) ∙
                  ap (λ l. (net (owner y)).credit_list y o ++ l) (sym none.1));
            }
        | inr two ↦
            let between = queues.between y o x linked two.1 in
            let far_x : (owner x == owner y) ≡ false =
            elim (number_cases (owner x) (owner y)) [ inl at ↦ absurd (two.1 (sym at.1)) | inr off ↦ off.0 ] in
            let leave = (part (owner y)).leaving y o x linked (owned y) far_x in
            let enter = (part (owner x)).entering y o x linked two.0 (owned x) in
            record {
              sent =
                  leave.0 ∙ ap (λ l. old.out y o ++ l) between.0 ∙
                  sym (append_assoc (old.out y o) (taken (owner x) y o) (flits y o)) ∙
                  grown_by (old.out y o ++ taken (owner x) y o) ((part (owner x)).since.arrived x (s.opposite o))
                  ((net (owner x)).out y o) (flits y o) enter.0;
              given =
                  enter.2 ∙ ap (λ l. old.credit_list y o ++ l) between.1 ∙
                  sym (append_assoc (old.credit_list y o) (returned (owner y) y o) (credits y o)) ∙
                  grown_by (old.credit_list y o ++ returned (owner y) y o) ((part (owner y)).since.counted y o)
                  ((net (owner y)).credit_list y o) (credits y o) leave.1;
            }
      ]

  whole_rest : IsRest s all_parts (λ y o. link_of owner net flits y o (s.neighbour y o))
      (λ y o. line_of owner net credits y o (s.neighbour y o))
  whole_rest = record {
    links = λ y o x linked. rw linked (link_rest y o x linked);
    ends = λ y o none. rw none (sym ((part (owner y)).ends y o none (owned y)), refl);
  }

  pub whole_holds : Holds s (whole s owner net flits credits)
  whole_holds =
      join_holds s mesh old all_parts _ _ whole_rest was
      (gather_holds s old (λ x. parts_of (net (owner x)) (part (owner x)).since) (λ x. (part (owner x)).holds))

  pub whole_sinks : SinksGrow s old (whole s owner net flits credits)
  whole_sinks =
      join_sinks s mesh old all_parts _ _ whole_rest
      (gather_holds s old (λ x. parts_of (net (owner x)) (part (owner x)).since) (λ x. (part (owner x)).holds)).sound

  pub whole_sources : SourcesGrow old (whole s owner net flits credits)
  whole_sources =
      join_sources s old all_parts (λ y o. link_of owner net flits y o (s.neighbour y o))
      (λ y o. line_of owner net credits y o (s.neighbour y o))
      (gather_holds s old (λ x. parts_of (net (owner x)) (part (owner x)).since) (λ x. (part (owner x)).holds)).queues
