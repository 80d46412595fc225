-- What a part knows of its ends and of the links that they are of, and how it stays a part as one end changes.
use Rattle.std.proofs.Common.{◌≡◌, ℕ, ◌<◌, ◌%◌, ◌==◌, true, false, inl, inr, length, Some}
use Rattle.std.proofs.Common.{refl, arith, sym, ap, subst, ◌∙◌, ◌≢◌}
use Rattle.std.proofs.Math.ListN.{length-set}
use Rattle.std.proofs.lemmas.List.{get_or-set_other, get_or-set_same}
use Rattle.worm_mesh.specs.Address.{has_neighbour, neighbour_of}
use Rattle.worm_mesh.specs.Links.{links_before, link_count}
use Rattle.worm_mesh.proofs.Digits.{AreLarge-from_radices}
use Rattle.worm_mesh.proofs.Neighbours.{IsLink-from_test, has_neighbour-from_Joins, Joins-from}
use Rattle.worm_mesh.proofs.Numbers.{one_link, below_count}
use Rattle.worm_theory.specs.Shape.{IsMesh}
use Rattle.worm_theory.specs.Network.{same, put2}
use Rattle.worm_theory.proofs.Places.{bool_cases, place_cases, same-false}
use Rattle.worm_links.specs.Links.{TxView, RxView, CreditTxView, CreditRxView}
use Rattle.worm_region.specs.Shape.{net_shape}
use Rattle.worm_region.specs.State.{NetState, IsSameConfig, shape, network_of}
use Rattle.worm_region.specs.Owned.{owned_by}
use Rattle.worm_region.specs.declared.owner.Owner.{Owner}
use Rattle.worm_region.proofs.FrameKept.{framed_mesh}
use Rattle.worm_theory.specs.Region.{HasPart}
use Rattle.worm_theory.specs.Openings.{past_of}
use Rattle.worm_split.specs.declared.ends.End.{End}
use Rattle.worm_split.specs.declared.ends.End.TheVariants.{Inner, Leaving, Entering}
use Rattle.worm_split.specs.Ends.{IsSameEnd, AreEndsMade, end_made, pair_at, seen_by, taken_on, returned_on}
use Rattle.worm_split.specs.PartState.{PartState, IsPart, end_of, owns}
use Rattle.worm_split.specs.PartTurns.{with_end}
use Rattle.worm_split.proofs.EndFacts.{IsLeavingEnd, IsEnteringEnd, leaving_end, entering_end, inner_end}

-- an end that is the same as one that is the same as a third
pub same_end_still : (a b c : End) → IsSameEnd a b → IsSameEnd b c → IsSameEnd a c
same_end_still Inner Inner c h k = k
same_end_still Inner (Leaving tx back) c h k = absurd h
same_end_still Inner (Entering rx give) c h k = absurd h
same_end_still (Leaving tx back) Inner c h k = absurd h
same_end_still (Leaving tx back) (Entering rx give) c h k = absurd h
same_end_still (Leaving tx back) (Leaving tx1 back1) Inner h k = absurd k
same_end_still (Leaving tx back) (Leaving tx1 back1) (Entering rx2 give2) h k = absurd k
same_end_still (Leaving tx back) (Leaving tx1 back1) (Leaving tx2 back2) h k =
    (k.0 ∙ h.0, k.1 ∙ h.1, k.2 ∙ h.2, k.3 ∙ h.3, k.4 ∙ h.4)
same_end_still (Entering rx give) Inner c h k = absurd h
same_end_still (Entering rx give) (Leaving tx back) c h k = absurd h
same_end_still (Entering rx give) (Entering rx1 give1) Inner h k = absurd k
same_end_still (Entering rx give) (Entering rx1 give1) (Leaving tx2 back2) h k = absurd k
same_end_still (Entering rx give) (Entering rx1 give1) (Entering rx2 give2) h k =
    (k.0 ∙ h.0, k.1 ∙ h.1, k.2 ∙ h.2, k.3 ∙ h.3, k.4 ∙ h.4)

-- nodes of which one is owned and the other is not have other owners
owned_apart : (workers worker y x : ℕ) → ((y % workers == worker) ≡ (x % workers == worker) → ⊥)
    → y % workers ≡ x % workers → ⊥
owned_apart workers worker y x apart e = apart (ap (λ (k : ℕ). k == worker) e)

module _ (p : PartState) (part : IsPart p) where
  pub same_mesh : p.net.mesh ≡ p.opening.mesh
  same_mesh = part.config.mesh

  pub part_shape : shape p.net ≡ shape p.opening
  part_shape = λ t. net_shape (part.config.mesh t) (part.config.channels t) (part.config.depth t)

  pub mesh_of_part : IsMesh (shape p.opening)
  mesh_of_part = framed_mesh p.opening part.opened.framed

  -- a node at the other end of a link
  pub linked_there : (y o x : ℕ) → neighbour_of p.net.mesh y o ≡ Some x → has_neighbour p.net.mesh y o ≡ true
  linked_there y o x linked =
      let large = AreLarge-from_radices p.opening.mesh part.opened.framed.radices.radices in
      let there : neighbour_of p.opening.mesh y o ≡ Some x = rw (← part.config.mesh) linked in
      rw part.config.mesh (has_neighbour-from_Joins p.opening.mesh y o x large
      (Joins-from p.opening.mesh y o x large there))

  -- another end of one link
  pub end_put : (x o : ℕ) (e : End) (net : NetState) → has_neighbour p.net.mesh x o ≡ true → net.mesh ≡ p.net.mesh
      → (y q : ℕ) → end_of (with_end p x o e net) y q ≡ put2 (end_of p) x o e y q
  end_put x o e net there mesh y q =
      let large = AreLarge-from_radices p.opening.mesh part.opened.framed.radices.radices in
      let there_then : has_neighbour p.opening.mesh x o ≡ true = rw (← part.config.mesh) there in
      let link = IsLink-from_test p.opening.mesh x o large there_then in
      let bound : links_before p.net.mesh x o < length p.ends = let all = part.all_ends in let few =
      below_count p.opening.mesh large x o link in
      let few_now : links_before p.net.mesh x o < link_count p.net.mesh = rw part.config.mesh few in
      omega arith in
      rw mesh (elim (bool_cases (has_neighbour p.net.mesh y q)) [
        | inl has ↦ elim (place_cases y q x o) [
          | inl here ↦ rw (has, here.0) (rw (
            here.1,
            here.2,
          ) (get_or-set_same p.ends (links_before p.net.mesh x o) e Inner bound))
          | inr away ↦
              let has_then : has_neighbour p.opening.mesh y q ≡ true = rw (← part.config.mesh) has in
              let apart : links_before p.net.mesh y q ≢ links_before p.net.mesh x o = λ same_number.
              let number : links_before p.opening.mesh y q ≡ links_before p.opening.mesh x o =
              rw (← part.config.mesh) same_number in
              let both = one_link p.opening.mesh large y q x o
              (IsLink-from_test p.opening.mesh y q large has_then) link number in
              away.1 both.0 both.1 in
              rw (has, away.0) (get_or-set_other p.ends (links_before p.net.mesh x o)
              (links_before p.net.mesh y q) e Inner apart)
        ]
        | inr none ↦
            let away : same y q x o ≡ false = same-false y q x o
            (λ e1 e2. let here : has_neighbour p.net.mesh y q ≡ true = rw (e1, e2) there in absurd (cc)) in
            rw (none, away) refl
      ])

  made_of : (y o x : ℕ) → (shape p.opening).neighbour y o ≡ Some x → (owns p y ≡ owns p x → ⊥)
      → AreEndsMade p.opening.mesh p.opening.channels p.opening.depth y o
      (past_of (shape p.opening) (network_of p.opening) y o x)
      (pair_at p.pairs (links_before p.opening.mesh y o)).out (pair_at p.pairs (links_before p.opening.mesh y o)).into
  made_of y o x linked apart = part.made y o x linked (owned_apart p.net.own.workers p.net.own.worker y x apart)

  -- what is known of an end, by its kind
  pub is_leaving : (y o x : ℕ) (tx : TxView) (back : CreditRxView) → (shape p.opening).neighbour y o ≡ Some x
      → end_of p y o ≡ Leaving tx back
      → IsLeavingEnd p.opening.mesh p.opening.channels y o (past_of (shape p.opening) (network_of p.opening) y o x)
      (owns p y) (owns p x) tx back
  is_leaving y o x tx back linked e =
      let pair = pair_at p.pairs (links_before p.opening.mesh y o) in
      leaving_end p.opening.mesh p.opening.channels p.opening.depth y o
      (past_of (shape p.opening) (network_of p.opening) y o x) (owns p y) (owns p x) pair.out pair.into tx back
      (made_of y o x linked) (subst (IsSameEnd (end_made (owns p y) (owns p x) pair)) e (part.ends y o x linked))

  pub is_entering : (y o x : ℕ) (rx : RxView) (give : CreditTxView) → (shape p.opening).neighbour y o ≡ Some x
      → end_of p y o ≡ Entering rx give
      → IsEnteringEnd p.opening.mesh p.opening.channels y o (past_of (shape p.opening) (network_of p.opening) y o x)
      (owns p y) (owns p x) rx give
  is_entering y o x rx give linked e =
      let pair = pair_at p.pairs (links_before p.opening.mesh y o) in
      entering_end p.opening.mesh p.opening.channels p.opening.depth y o
      (past_of (shape p.opening) (network_of p.opening) y o x) (owns p y) (owns p x) pair.out pair.into rx give
      (made_of y o x linked) (subst (IsSameEnd (end_made (owns p y) (owns p x) pair)) e (part.ends y o x linked))

  pub is_inner : (y o x : ℕ) → (shape p.opening).neighbour y o ≡ Some x → end_of p y o ≡ Inner → owns p y ≡ owns p x
  is_inner y o x linked e =
      let pair = pair_at p.pairs (links_before p.opening.mesh y o) in
      inner_end p.opening.mesh p.opening.channels p.opening.depth y o
      (past_of (shape p.opening) (network_of p.opening) y o x) (owns p y) (owns p x) pair.out pair.into
      (made_of y o x linked) (subst (IsSameEnd (end_made (owns p y) (owns p x) pair)) e (part.ends y o x linked))

  -- With another end of one link that is of the same queues, and with another network of the same configuration, it is
  -- a part where the theory says so.
  pub part_with_end : (x o : ℕ) (e : End) (net : NetState) → has_neighbour p.net.mesh x o ≡ true
      → IsSameConfig p.net net → IsSameEnd (end_of p x o) e
      → HasPart (shape p.opening) (network_of p.opening) (owns p) (seen_by (put2 (end_of p) x o e) (network_of net))
      (λ y q. taken_on (put2 (end_of p) x o e y q)) (λ y q. returned_on (put2 (end_of p) x o e y q))
      → IsPart (with_end p x o e net)
  part_with_end x o e net there config same_end holds =
      let new = end_put x o e net there config.mesh in
      let ends : put2 (end_of p) x o e ≡ end_of (with_end p x o e net) = λ t y q. sym (new y q) t in
      record {
        opened = part.opened;
        config = record {
          mesh = config.mesh ∙ part.config.mesh;
          channels = config.channels ∙ part.config.channels;
          depth = config.depth ∙ part.config.depth;
          names = config.names ∙ part.config.names;
        };
        worker = rw config.own part.worker;
        made = rw config.own part.made;
        all_ends = rw length-set (part.all_ends ∙ ap link_count (sym config.mesh));
        ends = λ y q z linked.
            let had = part.ends y q z linked in
            let made = end_made (owns p y) (owns p z) (pair_at p.pairs (links_before p.opening.mesh y q)) in
            let Same : End → Type 0 = λ k. IsSameEnd made k in
            subst (λ (w : Owner). IsSameEnd (end_made (owned_by w y) (owned_by w z)
            (pair_at p.pairs (links_before p.opening.mesh y q))) (end_of (with_end p x o e net) y q))
            (sym config.own)
            (subst Same (sym (new y q)) (elim (place_cases y q x o) [
              | inl here ↦
                  let at : end_of p y q ≡ end_of p x o = λ t. end_of p (here.1 t) (here.2 t) in
                  rw here.0 (same_end_still made (end_of p x o) e (subst Same at had) same_end)
              | inr away ↦ rw away.0 had
            ]));
        holds = let Holds : (ℕ → ℕ → End) → Type 0 =
            λ f. HasPart (shape p.opening) (network_of p.opening) (owns p) (seen_by f (network_of net))
            (λ y q. taken_on (f y q)) (λ y q. returned_on (f y q)) in
            let new_ends = end_of (with_end p x o e net) in
            subst (λ (w : Owner). HasPart (shape p.opening) (network_of p.opening) (owned_by w)
            (seen_by new_ends (network_of net)) (λ y q. taken_on (new_ends y q))
            (λ y q. returned_on (new_ends y q)))
            (sym config.own) (subst Holds ends holds);
      }
