-- What a part knows where it asks for a flit or a credit, or sends one: the links of a port, and its ends of them.
use Rattle.std.proofs.Common.{◌≡◌, ℕ, ◌<◌, [], ◌∷◌, ◌++◌, length, get_or, Option, Some, false}
use Rattle.std.proofs.Common.{refl, arith, sym, ap, subst, ◌∙◌}
use Rattle.std.proofs.lemmas.List.{get_or_default}
use Rattle.worm_flit.specs.declared.Flit.{Flit}
use Rattle.worm_flit.specs.Stamps.{on_channel}
use Rattle.worm_flit.specs.Worms.{Continues}
use Rattle.worm_mesh.specs.Address.{neighbour_of, node_count, opposite_of}
use Rattle.worm_mesh.specs.Links.{links_before, link_count}
use Rattle.worm_mesh.proofs.Digits.{AreLarge-from_radices}
use Rattle.worm_mesh.proofs.Neighbours.{Joins-from, Joins-back, neighbour_of-some}
use Rattle.worm_links.specs.Links.{TxView, RxView, CreditTxView, CreditRxView, MayCross}
use Rattle.worm_region.specs.State.{IsFramed, network_of, link_at, shape}
use Rattle.worm_wires.specs.Wiring.{into_from, port_links}
use Rattle.worm_theory.specs.Steps.{IsLinked}
use Rattle.worm_region.specs.Shape.{net_shape}
use Rattle.worm_region.specs.Workable.{EndsElsewhere, owned}
use Rattle.std.specs.Prelude.{IsSome}
use Rattle.worm_region.specs.Moves.{link_into, link_out}
use Rattle.worm_wires.specs.declared.wiring.PortLinks.{PortLinks}
use Rattle.worm_region.proofs.LinkWritten.{out_there, credits_there}
use Rattle.worm_wires.proofs.Wired.{parts, ports_within}
use Rattle.worm_split.specs.declared.ends.End.{End}
use Rattle.worm_split.specs.declared.ends.End.TheVariants.{Inner, Leaving, Entering}
use Rattle.worm_split.specs.Ends.{CreditPopped, FlitPopped, end_at}
use Rattle.worm_split.specs.PartState.{PartState, IsPart, end_of}
use Rattle.worm_split.proofs.PartFacts.{linked_there}

-- which end it was that something came by
pub credit_popped : (e new : End) (c : ℕ) → CreditPopped e c new
    → (tx : TxView) × (back : CreditRxView) × (e ≡ Leaving tx back)
    × (new ≡ Leaving tx (record back { taken = back.taken ++ c ∷ [] })) × (c < back.link.channels)
credit_popped Inner new c h = absurd h
credit_popped (Leaving tx back) new c h = (tx, back, refl, h.0, h.1)
credit_popped (Entering rx give) new c h = absurd h

pub flit_popped : (e new : End) (f : Flit) → FlitPopped e f new
    → (rx : RxView) × (give : CreditTxView) × (e ≡ Entering rx give)
    × (new ≡ Entering (record rx { taken = rx.taken ++ f ∷ [] }) give)
    × Continues (on_channel f.vc (rx.past ++ rx.taken)) f × MayCross rx.link f
flit_popped Inner new f h = absurd h
flit_popped (Leaving tx back) new f h = absurd h
flit_popped (Entering rx give) new f h = (rx, give, refl, h.0, h.1, h.2)

-- A part and the links of one of its ports.
pub record HasLinks (p : PartState) (x o : ℕ) (links : PortLinks) : Type 0 where
  pub part : IsPart p
  pub framed : IsFramed p.net
  pub at : ◌≡◌ {A = Option PortLinks} (Some links) (port_links p.net.mesh x o)

module _ {p : PartState} {x o : ℕ} {links : PortLinks} (has : HasLinks p x o links) where
  these : (neighbour_of p.net.mesh x o ≡ Some links.beyond)
      × (links ≡ record {
        beyond = links.beyond;
        entered = opposite_of o;
        out = links_before p.net.mesh x o;
        into = links_before p.net.mesh links.beyond (opposite_of o);
      })
  these = parts p.net.mesh x o links has.at

  pub linked : neighbour_of p.net.mesh x o ≡ Some links.beyond
  linked = these.0

  pub back : neighbour_of p.net.mesh links.beyond (opposite_of o) ≡ Some x
  back =
      let large = AreLarge-from_radices p.net.mesh has.framed.radices.radices in
      neighbour_of-some p.net.mesh links.beyond (opposite_of o) x large
      (Joins-back p.net.mesh x o links.beyond (Joins-from p.net.mesh x o links.beyond large linked))

  pub beyond_in : links.beyond < node_count p.net.mesh
  beyond_in = (Joins-from p.net.mesh x o links.beyond
      (AreLarge-from_radices p.net.mesh has.framed.radices.radices) linked).to_node

  pub entered_is : links.entered ≡ opposite_of o
  entered_is = ap (λ (l : PortLinks). l.entered) these.1

  pub out_is : links.out ≡ links_before p.net.mesh x o
  out_is = ap (λ (l : PortLinks). l.out) these.1

  pub into_is : links.into ≡ links_before p.net.mesh links.beyond (opposite_of o)
  into_is = ap (λ (l : PortLinks). l.into) these.1

  within : (links.out < link_count p.net.mesh) × (links.into < link_count p.net.mesh)
  within = ports_within p.net.mesh x o links has.framed.radices has.at

  pub out_end_bound : (n : ℕ) → n ≡ links.out → n < length p.ends
  out_end_bound n number = let w = within in let all = has.part.all_ends in omega (arith, w.0)

  pub into_end_bound : (n : ℕ) → n ≡ links.into → n < length p.ends
  into_end_bound n number = let w = within in let all = has.part.all_ends in omega (arith, w.1)

  -- the ends of the links
  pub out_end : end_at p.ends links.out ≡ end_of p x o
  out_end =
      let there = linked_there p has.part x o links.beyond linked in
      rw there (ap (λ (k : ℕ). end_at p.ends k) out_is)

  pub into_end : end_at p.ends links.into ≡ end_of p links.beyond (opposite_of o)
  into_end = let there = linked_there p has.part links.beyond (opposite_of o) x back in
      rw there (ap (λ (k : ℕ). end_at p.ends k) into_is)

  -- the end by number, as it is looked up
  pub out_looked_up : (n : ℕ) (end : End) → n ≡ links.out → end ≡ get_or p.ends n end → end ≡ end_of p x o
  out_looked_up n end number now =
      now ∙ get_or_default p.ends n end Inner (out_end_bound n number) ∙ (λ t. end_at p.ends (number t))
      ∙ out_end

  pub into_looked_up : (n : ℕ) (end : End) → n ≡ links.into → end ≡ get_or p.ends n end
      → end ≡ end_of p links.beyond (opposite_of o)
  into_looked_up n end number now =
      now ∙ get_or_default p.ends n end Inner (into_end_bound n number) ∙ (λ t. end_at p.ends (number t))
      ∙ into_end

  -- their lists
  pub out_credits : (network_of p.net).credit_list x o ≡ (link_at p.net links.out).credits
  out_credits = credits_there p.net x o has.framed (linked_there p has.part x o links.beyond linked)
      ∙ ap (λ (k : ℕ). (link_at p.net k).credits) (sym out_is)

  pub into_flits : (network_of p.net).out links.beyond (opposite_of o) ≡ (link_at p.net links.into).flits
  into_flits = out_there p.net links.beyond (opposite_of o) has.framed
      (linked_there p has.part links.beyond (opposite_of o) x back)
      ∙ ap (λ (k : ℕ). (link_at p.net k).flits) (sym into_is)

  -- the same links as the port has them
  pub out_here : link_out p.net x o ≡ links.out
  out_here = sym out_is

  pub into_here : link_into p.net x o ≡ links.into
  into_here = ap (λ (n : Option ℕ). into_from p.net.mesh o n) linked ∙ sym into_is

  -- what is said of the node beyond holds of the one that the port leads to, and the other way round
  pub of_beyond : (P : ℕ → Type 0) → IsLinked (neighbour_of p.net.mesh x o) P → P links.beyond
  of_beyond P h = subst (λ (n : Option ℕ). IsLinked n P) linked h

  pub port_linked : IsSome (neighbour_of p.net.mesh x o)
  port_linked = rw linked refl

  pub ends_elsewhere_here : owned p.net links.beyond ≡ false → EndsElsewhere (shape p.net) (owned p.net) x o
  unfolding net_shape
  ends_elsewhere_here elsewhere =
      subst (λ (n : Option ℕ). IsLinked n (λ y. owned p.net y ≡ false)) (sym linked) elsewhere
