-- A flit that leaves for a node of the part's own, or for its sink, goes as in a network.
use Rattle.std.proofs.Common.{◌≡◌, ℕ, Bool, true, false, Option, Some}
use Rattle.std.proofs.Common.{None, Ok, Err, refl, sym, ap, subst, ◌∙◌}
use Rattle.std.specs.Prelude.{IfSome, IsTrue, Result}
use Rattle.worm_flit.specs.declared.Flit.{Flit}
use Rattle.worm_links.specs.Links.{TxView, RxView, CreditTxView, CreditRxView}
use Rattle.worm_mesh.specs.Address.{neighbour_of, opposite_of}
use Rattle.worm_records.specs.declared.InRecord.{InRecord}
use Rattle.worm_records.specs.declared.InRecord.TheVariants.{Idle}
use Rattle.worm_router.specs.Router.{leaving}
use Rattle.worm_theory.specs.Steps.{Send, GiveCredit, IsActiveAt}
use Rattle.worm_region.specs.Shape.{net_shape}
use Rattle.worm_region.specs.State.{NetState, IsFramed, IsSameConfig, shape, network_of, router_at}
use Rattle.worm_region.specs.Moves.{after_ready}
use Rattle.worm_region.specs.Replies.{Replies}
use Rattle.worm_region.specs.Workable.{owned, EndsWithin}
use Rattle.worm_region.specs.declared.step.Moved.{Moved}
use Rattle.worm_region.specs.declared.step.Moved.TheVariants.{Done, Idle}
use Rattle.worm_region.specs.declared.fault.StepFault.{StepFault}
use Rattle.worm_region.specs.declared.fault.StepFault.TheVariants.{NoSuchPlace, Refused, NoMemory}
use Rattle.worm_region.proofs.PlacesThere.{net_place}
use Rattle.worm_split.specs.declared.ends.End.{End}
use Rattle.worm_split.specs.declared.ends.End.TheVariants.{Inner, Leaving, Entering}
use Rattle.worm_split.specs.Ends.{leaves_by, enters_by}
use Rattle.worm_split.specs.PartState.{PartState, IsPart, end_of, owns, taken_by, returned_to}
use Rattle.worm_split.specs.PartTurns.{LeavesBy, ComesBy, StaysWithin}
use Rattle.worm_split.proofs.GoesByEnd.{ready_at}
use Rattle.worm_split.proofs.OwnMoves.{IsInside, inside_now}
use Rattle.worm_split.proofs.Keeping.{keeps_answer, stays}
use Rattle.worm_split.proofs.PartFacts.{mesh_of_part, is_leaving, is_entering, is_inner}
use Rattle.worm_split.proofs.NoEndTouched.{Sees, SeesFlits, SeesCredits}

-- the test of an end
pub leaves_means : (e : End) (b : Bool) → b ≡ leaves_by e
    → (IsTrue b → (tx : TxView) × (back : CreditRxView) × (e ≡ Leaving tx back))
    × (((tx : TxView) × (back : CreditRxView) × (e ≡ Leaving tx back)) → IsTrue b)
leaves_means Inner b is = (
  λ yes_it. let clash : true ≡ false = sym yes_it ∙ is in absurd (cc),
  λ l. let e = l.2 in absurd (cc),
)
leaves_means (Leaving tx back) b is = (λ _. (tx, back, refl), λ _. is)
leaves_means (Entering rx give) b is = (
  λ yes_it. let clash : true ≡ false = sym yes_it ∙ is in absurd (cc),
  λ l. let e = l.2 in absurd (cc),
)

module _ (p : PartState) (part : IsPart p) (x : ℕ) (here : owns p x ≡ true) where
  -- a link out of the node that does not leave the part leads to another of its nodes
  leads_within : (o y : ℕ) → (shape p.opening).neighbour x o ≡ Some y → (LeavesBy p x o → ⊥) → (e : End)
      → end_of p x o ≡ e → owns p y ≡ true
  leads_within o y linked stays_in Inner at = sym (is_inner p part x o y linked at) ∙ here
  leads_within o y linked stays_in (Leaving tx back) at = absurd (stays_in (tx, back, at))
  leads_within o y linked stays_in (Entering rx give) at =
      let is = is_entering p part x o y rx give linked at in
      let clash : true ≡ false = sym here ∙ is.near_elsewhere in
      absurd (cc)

  pub ends_within : (o : ℕ) → (LeavesBy p x o → ⊥) → EndsWithin (shape p.net) (owned p.net) x o
  unfolding net_shape
  ends_within o stays_in y to =
      let then : neighbour_of p.opening.mesh x o ≡ Some y = rw (← part.config.mesh) to in
      (here, leads_within o y then stays_in (end_of p x o) refl)

  pub sends_within : (d : Option (ℕ × Flit)) → StaysWithin p x d
      → IfSome d (λ out. EndsWithin (shape p.net) (owned p.net) x out.0)
  sends_within None stays_in = tt
  sends_within (Some d) stays_in = ends_within d.0 stays_in

  -- an end by which no flit leaves
  sees_unless : (o : ℕ) → (LeavesBy p x o → ⊥) → (e : End) → end_of p x o ≡ e → SeesFlits e
  sees_unless o stays_in Inner at flits = refl
  sees_unless o stays_in (Entering rx give) at flits = refl
  sees_unless o stays_in (Leaving tx back) at flits = absurd (stays_in (tx, back, at))

  abbrev Made : NetState → Type 0
  Made net = IsInside p part net × IsSameConfig p.net net

  unmoved : (net : NetState) → net ≡ p.net → Made net
  unmoved net e = stays (shape p.opening) (mesh_of_part p part) (network_of p.opening) (owns p) (end_of p) (taken_by p)
      (returned_to p) p.net net e (inside_now p part)

  module _ (q v : ℕ) (net : NetState) (framed : IsFramed p.net) where
    done_by : (d : Option (ℕ × Flit)) → leaving (router_at p.net x) q v ≡ d → StaysWithin p x d
        → Replies p.net (Send x q v) (Ok Done) net → Made net
    done_by None at stays_in made = unmoved net
        (made.exact ∙ ap (λ (d : Option (ℕ × Flit)). after_ready p.net x q v d) at)
    done_by (Some d) at stays_in made =
        let place = net_place p.net x q v framed made.there.0 made.there.1 made.there.2 in
        let ready = ready_at p.net x q v d.0 d.1 place at in
        let sees : Sees (shape p.opening) (end_of p) (network_of p.net) (Send x q v)
        = subst (λ (r : InRecord). IsActiveAt r (λ o c. SeesFlits (end_of p x o))) (sym ready.active)
        (sees_unless d.0 stays_in (end_of p x d.0) refl) in
        keeps_answer (shape p.opening) (mesh_of_part p part) (network_of p.opening) (owns p) (end_of p) (taken_by p)
        (returned_to p) (Send x q v) here p.net net (Ok Done) sees (inside_now p part) made

    pub sent_within : (answer : Result Moved StepFault) → StaysWithin p x (leaving (router_at p.net x) q v)
        → Replies p.net (Send x q v) answer net → Made net
    sent_within (Ok Done) stays_in made = done_by (leaving (router_at p.net x) q v) refl stays_in made
    sent_within (Ok Idle) stays_in i = unmoved net i.3
    sent_within (Err NoSuchPlace) stays_in i = unmoved net i.1
    sent_within (Err (Refused why)) stays_in i = unmoved net i.3
    sent_within (Err NoMemory) stays_in i = unmoved net i.3

  -- The same of a credit, by a port of which the link into it does not come from elsewhere

  comes_within : (o y : ℕ) → (shape p.opening).neighbour x o ≡ Some y → (ComesBy p x o → ⊥)
      → neighbour_of p.net.mesh x o ≡ Some y → (e : End) → end_of p y (opposite_of o) ≡ e
      → (owns p y ≡ true) × SeesCredits e
  unfolding net_shape
  comes_within o y linked stays_in to Inner at =
      let back_linked = (mesh_of_part p part).link_back x o y linked in
      (is_inner p part y (opposite_of o) x back_linked at ∙ here, λ credits. refl)
  comes_within o y linked stays_in to (Leaving tx back) at =
      let back_linked = (mesh_of_part p part).link_back x o y linked in
      let is = is_leaving p part y (opposite_of o) x tx back back_linked at in
      let clash : true ≡ false = sym here ∙ is.far_elsewhere in
      absurd (cc)
  comes_within o y linked stays_in to (Entering rx give) at = absurd (stays_in (y, to, (rx, give, at)))

  pub credit_ends_within : (o : ℕ) → (ComesBy p x o → ⊥) → EndsWithin (shape p.net) (owned p.net) x o
  unfolding net_shape
  credit_ends_within o stays_in y to =
      let then : neighbour_of p.opening.mesh x o ≡ Some y = rw (← part.config.mesh) to in
      (here, (comes_within o y then stays_in to (end_of p y (opposite_of o)) refl).0)

  pub gave_within : (o v : ℕ) (net : NetState) (answer : Result Moved StepFault) → (ComesBy p x o → ⊥)
      → Replies p.net (GiveCredit x o v) answer net → Made net
  unfolding net_shape
  gave_within o v net answer stays_in replied =
      let sees : Sees (shape p.opening) (end_of p) (network_of p.net) (GiveCredit x o v)
      = λ y then. (let to : neighbour_of p.net.mesh x o ≡ Some y = rw part.config.mesh then in
      (comes_within o y then stays_in to (end_of p y (opposite_of o)) refl).1) in
      keeps_answer (shape p.opening) (mesh_of_part p part) (network_of p.opening) (owns p) (end_of p) (taken_by p)
      (returned_to p) (GiveCredit x o v) here p.net net answer sees (inside_now p part) replied

-- the test of an end by which flits enter
pub enters_means : (e : End) (b : Bool) → b ≡ enters_by e
    → (IsTrue b → (rx : RxView) × (give : CreditTxView) × (e ≡ Entering rx give))
    × (((rx : RxView) × (give : CreditTxView) × (e ≡ Entering rx give)) → IsTrue b)
enters_means Inner b is = (λ it. let clash : true ≡ false = sym it ∙ is in absurd (cc), λ l. let e = l.2 in absurd (cc))
enters_means (Leaving tx back) b is = (
  λ it. let clash : true ≡ false = sym it ∙ is in absurd (cc),
  λ l. let e = l.2 in absurd (cc),
)
enters_means (Entering rx give) b is = (λ _. (rx, give, refl), λ _. is)

-- the link into a port whose end this is
pub comes_means : (p : PartState) (x o beyond : ℕ) (b : Bool) → neighbour_of p.net.mesh x o ≡ Some beyond
    → b ≡ enters_by (end_of p beyond (opposite_of o)) → (IsTrue b → ComesBy p x o) × (ComesBy p x o → IsTrue b)
comes_means p x o beyond b linked is =
    let means = enters_means (end_of p beyond (opposite_of o)) b is in (
      λ it. (beyond, linked, means.0 it),
      λ comes.
          let one : ◌≡◌ {A = Option ℕ} (Some beyond) (Some comes.0) = sym linked ∙ comes.1 in
          let same : comes.0 ≡ beyond = cc in
          means.1 (comes.2.0, comes.2.1, ap (λ (y : ℕ). end_of p y (opposite_of o)) (sym same) ∙ comes.2.2),
    )
