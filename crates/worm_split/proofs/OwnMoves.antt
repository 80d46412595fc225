-- What a part's network does by itself, at one of the part's nodes, keeps it a part.
use Rattle.std.proofs.Common.{◌≡◌, ℕ, ◌<◌, true, false, cond, inl, inr, List, Some, None, refl}
use Rattle.std.proofs.Common.{arith, sym, ap, subst, ◌∙◌}
use Rattle.worm_mesh.specs.Address.{has_neighbour, node_count}
use Rattle.worm_mesh.specs.Links.{links_before, link_count}
use Rattle.worm_mesh.proofs.Digits.{AreLarge-from_radices}
use Rattle.worm_mesh.proofs.Neighbours.{IsLink-from_test, neighbour_of-some}
use Rattle.worm_router.specs.Allocation.{after_allocate}
use Rattle.worm_theory.specs.Network.{Network}
use Rattle.worm_theory.specs.Steps.{Grant}
use Rattle.worm_theory.proofs.Places.{bool_cases}
use Rattle.worm_region.specs.Shape.{net_shape}
use Rattle.worm_region.specs.State.{NetState, IsSameConfig, shape, network_of, router_at, with_router}
use Rattle.worm_region.specs.Moves.{chosen_router}
use Rattle.worm_region.specs.Prepared.{Prepares, allocated_at}
use Rattle.worm_region.specs.Replies.{Attempts}
use Rattle.worm_region.specs.Turns.{Passage, AsksSourceBy, ComesInBy, TakesCreditsBy, TakesFlitsBy}
use Rattle.worm_region.specs.Turns.{FeedsClassesBy, RoutesChannelsBy}
use Rattle.worm_region.specs.Workable.{IsWorkable}
use Rattle.worm_region.specs.Owned.{owned_by}
use Rattle.worm_region.specs.declared.owner.Owner.{Owner}
use Rattle.worm_script.specs.declared.entry.Entry.{Entry}
use Rattle.worm_region.proofs.PassIsGrants.{IsKeptByGrants, allocated_keeps, chosen_apart}
use Rattle.worm_theory.specs.Region.{HasPart}
use Rattle.worm_split.specs.declared.ends.End.{End}
use Rattle.worm_split.specs.declared.ends.End.TheVariants.{Inner, Leaving, Entering}
use Rattle.worm_split.specs.Ends.{IsSameEnd, end_made, end_at, pair_at, seen_by, taken_on, returned_on}
use Rattle.worm_split.specs.PartState.{PartState, IsPart, end_of, owns, taken_by, returned_to}
use Rattle.worm_split.proofs.Keeping.{IsOf, Keeps, keeps_answer, keeps_asking, keeps_credits, keeps_flits}
use Rattle.worm_split.proofs.Keeping.{keeps_feeding, keeps_routing, keeps_then}
use Rattle.worm_split.proofs.PartFacts.{mesh_of_part, part_shape, is_leaving, is_entering}
use Rattle.worm_split.proofs.NoEndTouched.{SeesFlits, SeesCredits}

module _ (p : PartState) (part : IsPart p) where
  -- the network of these lists is that of a part with these ends
  abbrev pub IsInside : NetState → Type 0
  IsInside net = IsOf (shape p.opening) (mesh_of_part p part) (network_of p.opening) (owns p) (end_of p) (taken_by p)
      (returned_to p) net

  pub inside_now : IsInside p.net
  inside_now = record { same_shape = part_shape p part; holds = part.holds }

  -- with this network the part is a part
  pub part_with_net : (net : NetState) → IsInside net → IsSameConfig p.net net → IsPart (record p { net = net })
  part_with_net net inside config =
      let ends : end_of p ≡ end_of (record p { net = net }) =
      λ t y o. cond (has_neighbour (sym config.mesh t) y o)
      (end_at p.ends (links_before (sym config.mesh t) y o)) Inner in
      record {
        opened = part.opened;
        config = record {
          mesh = config.mesh ∙ part.config.mesh;
          channels = config.channels ∙ part.config.channels;
          depth = config.depth ∙ part.config.depth;
          names = config.names ∙ part.config.names;
        };
        worker = subst (λ (w : Owner). w.worker < w.workers) (sym config.own) part.worker;
        made = rw config.own part.made;
        all_ends = part.all_ends ∙ ap link_count (sym config.mesh);
        ends = λ y o x linked.
            let pair = pair_at p.pairs (links_before p.opening.mesh y o) in
            let first = subst (λ (f : ℕ → ℕ → End). IsSameEnd (end_made (owns p y) (owns p x) pair) (f y o)) ends
            (part.ends y o x linked) in
            subst (λ (w : Owner). IsSameEnd (end_made (owned_by w y) (owned_by w x) pair)
            (end_of (record p { net = net }) y o)) (sym config.own) first;
        holds =
            let Holds : (ℕ → ℕ → End) → Type 0 =
            λ f. HasPart (shape p.opening) (network_of p.opening) (owns p) (seen_by f (network_of net))
            (λ y o. taken_on (f y o)) (λ y o. returned_on (f y o)) in
            let first = subst Holds ends inside.holds in
            let f = end_of (record p { net = net }) in
            subst (λ (w : Owner). HasPart (shape p.opening) (network_of p.opening) (owned_by w)
            (seen_by f (network_of net)) (λ y o. taken_on (f y o)) (λ y o. returned_on (f y o)))
            (sym config.own) first;
      }

  -- after a pass of a node's switch allocator, which moves its pointers alone
  inside_chosen : (x : ℕ) (net : NetState) → IsWorkable net → x < node_count net.mesh → IsInside net
      → IsInside (with_router net x (chosen_router (router_at net x)))
  inside_chosen x net workable x_in inside =
      let all = workable.framed.all_nodes in
      let same = chosen_apart net x (omega arith) in
      record {
        same_shape = inside.same_shape;
        holds = subst (λ (n : Network). HasPart (shape p.opening) (network_of p.opening) (owns p) (seen_by (end_of p) n)
            (taken_by p) (returned_to p)) (sym same) inside.holds;
      }

  -- At one of its nodes

  module _ (x : ℕ) (here : owns p x ≡ true) where
    by_in : (q y : ℕ) → (shape p.opening).neighbour x q ≡ Some y → (e : End)
        → end_of p y ((shape p.opening).opposite q) ≡ e → SeesFlits e
    by_in q y linked Inner at flits = refl
    by_in q y linked (Entering rx give) at flits = refl
    by_in q y linked (Leaving tx back) at flits =
        let back_linked = (mesh_of_part p part).link_back x q y linked in
        let is = is_leaving p part y ((shape p.opening).opposite q) x tx back back_linked at in
        let clash : true ≡ false = sym here ∙ is.far_elsewhere in
        absurd (cc)

    pub in_sees : (q y : ℕ) → (shape p.opening).neighbour x q ≡ Some y
        → SeesFlits (end_of p y ((shape p.opening).opposite q))
    in_sees q y linked = by_in q y linked (end_of p y ((shape p.opening).opposite q)) refl

    by_out : (o y : ℕ) → (shape p.opening).neighbour x o ≡ Some y → (e : End) → end_of p x o ≡ e → SeesCredits e
    by_out o y linked Inner at credits = refl
    by_out o y linked (Leaving tx back) at credits = refl
    by_out o y linked (Entering rx give) at credits =
        let is = is_entering p part x o y rx give linked at in
        let clash : true ≡ false = sym here ∙ is.near_elsewhere in
        absurd (cc)

    pub out_sees : (o : ℕ) → SeesCredits (end_of p x o)
    unfolding net_shape
    out_sees o = elim (bool_cases (has_neighbour p.net.mesh x o)) [
      | inl has ↦
          let large = AreLarge-from_radices p.opening.mesh part.opened.framed.radices.radices in
          let then : has_neighbour p.opening.mesh x o ≡ true = rw (← part.config.mesh) has in
          let link = IsLink-from_test p.opening.mesh x o large then in
          by_out o link.0 (neighbour_of-some p.opening.mesh x o link.0 large link.1) (end_of p x o) refl
      | inr none ↦ rw none (λ credits. refl)
    ]

    abbrev KeepsIt : Passage → Type 0
    KeepsIt P = Keeps (shape p.opening) (mesh_of_part p part) (network_of p.opening) (owns p) (end_of p) (taken_by p)
        (returned_to p) P

    -- what is asked of its source
    pub keeps_asked : (entries : List Entry) → KeepsIt (AsksSourceBy Attempts entries x)
    keeps_asked entries = keeps_asking (shape p.opening) (mesh_of_part p part) (network_of p.opening) (owns p)
        (end_of p) (taken_by p) (returned_to p) x here in_sees out_sees entries

    -- what comes in
    keeps_coming : KeepsIt (ComesInBy Attempts x)
    keeps_coming =
        let s = shape p.opening in
        let mesh = mesh_of_part p part in
        let old = network_of p.opening in
        let then = keeps_then s mesh old (owns p) (end_of p) (taken_by p) (returned_to p) in
        then (TakesCreditsBy Attempts x) _ (keeps_credits s mesh old (owns p) (end_of p) (taken_by p)
        (returned_to p) x here in_sees out_sees)
        (then (TakesFlitsBy Attempts x) _ (keeps_flits s mesh old (owns p) (end_of p) (taken_by p)
        (returned_to p) x here in_sees out_sees)
        (then (FeedsClassesBy Attempts x) (RoutesChannelsBy Attempts x)
        (keeps_feeding s mesh old (owns p) (end_of p) (taken_by p) (returned_to p) x here in_sees out_sees)
        (keeps_routing s mesh old (owns p) (end_of p) (taken_by p) (returned_to p) x here in_sees out_sees)))

    -- what is granted
    kept_by_grants : IsKeptByGrants x IsInside
    kept_by_grants = record {
      by_grant = λ t u q v k answer replied had.
          (keeps_answer (shape p.opening) (mesh_of_part p part) (network_of p.opening) (owns p) (end_of p) (taken_by p)
          (returned_to p) (Grant x q v k) here t u answer tt had replied).0;
      by_places = λ t u config same had. record {
        same_shape = (λ i. net_shape (config.mesh i) (config.channels i) (config.depth i)) ∙ had.same_shape;
        holds = subst (λ (n : Network). HasPart (shape p.opening) (network_of p.opening) (owns p) (seen_by (end_of p) n)
            (taken_by p) (returned_to p)) (sym same) had.holds;
      };
    }

    keeps_allocating : (net : NetState) → IsWorkable net → x < node_count net.mesh → IsInside net
        → IsInside (with_router net x (after_allocate (router_at net x)))
    keeps_allocating net workable x_in inside =
        let all = workable.framed.all_nodes in
        (allocated_keeps IsInside net x kept_by_grants workable (omega arith) inside).1

    -- what is prepared
    pub inside_prepared : (granted : ℕ) (net new : NetState) → x < node_count net.mesh → IsInside net
        → Prepares x granted net new → IsInside new
    inside_prepared granted net new x_in inside done =
        let came = keeps_coming net done.came None inside done.comes in
        let came_in : x < node_count done.came.mesh =
        subst (λ (mesh : List ℕ). x < node_count mesh) (sym came.1.mesh) x_in in
        let allocated = keeps_allocating done.came done.workable came_in came.0 in
        subst IsInside (sym done.chooses.1)
        (inside_chosen x (allocated_at x done.came) done.still_workable came_in allocated)
