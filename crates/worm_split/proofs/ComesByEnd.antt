-- What comes by a part's end: a credit of a link that leaves its nodes, a flit of one that enters them.
use Rattle.std.proofs.Common.{◌≡◌, ℕ, ◌<◌, false, List, [], ◌∷◌, ◌++◌, sum, get_or, Some}
use Rattle.std.proofs.Common.{refl, sym, ap, subst, ◌∙◌}
use Rattle.std.specs.Prelude.{slice_set}
use Rattle.worm_flit.specs.declared.Flit.{Flit}
use Rattle.worm_flit.specs.Stamps.{on_channel}
use Rattle.worm_flit.specs.Worms.{Continues}
use Rattle.worm_mesh.specs.Address.{neighbour_of, node_count, opposite_of}
use Rattle.worm_mesh.specs.Links.{links_before}
use Rattle.worm_links.specs.Links.{TxView, RxView, CreditTxView, CreditRxView, MayCross}
use Rattle.worm_region.specs.Shape.{net_shape}
use Rattle.worm_region.specs.State.{NetState, IsFramed, IsSameConfig, shape, network_of, link_at}
use Rattle.worm_region.specs.Edges.{Arrives, ArrivesBy, ComesBack, ComesBackBy, after_arriving, after_credit_back}
use Rattle.worm_region.specs.Workable.{owned}
use Rattle.worm_region.specs.Moves.{link_into, link_out}
use Rattle.worm_wires.specs.declared.wiring.PortLinks.{PortLinks}
use Rattle.worm_split.specs.declared.ends.End.{End}
use Rattle.worm_split.specs.declared.ends.End.TheVariants.{Leaving, Entering}
use Rattle.worm_split.specs.Ends.{CreditPopped, FlitPopped}
use Rattle.worm_split.specs.PartState.{PartState, IsPart, IsSamePart, end_of}
use Rattle.worm_split.specs.PartTurns.{CreditComes, FlitComes, with_end}
use Rattle.worm_split.proofs.PartFacts.{is_leaving, is_entering}
use Rattle.worm_split.proofs.PartMoves.{credit_comes, flit_comes}
use Rattle.worm_split.proofs.EndsKnown.{HasLinks, credit_popped, flit_popped, linked, back, out_is}
use Rattle.worm_split.proofs.EndsKnown.{into_is, out_looked_up, into_looked_up}
use Rattle.worm_split.proofs.EndsKnown.{out_credits, into_flits, out_here, into_here, of_beyond}

-- another list of one link leaves the configuration
same_when_linked : (s new : NetState) (k : ℕ) (l : Rattle.worm_wires.specs.Links.LinkView)
    → new ≡ Rattle.worm_region.specs.State.with_link s k l → IsSameConfig s new
same_when_linked s new k l e = record {
  mesh = ap (λ (n : NetState). n.mesh) e;
  channels = ap (λ (n : NetState). n.channels) e;
  depth = ap (λ (n : NetState). n.depth) e;
  names = ap (λ (n : NetState). n.names) e;
  own = ap (λ (n : NetState). n.own) e;
}

-- A credit came off the line: what is asked of where it goes.
pub record CreditInHand (p : PartState) (x o c : ℕ) (links : PortLinks) (n : ℕ) (new : End) : Type 0 where
  pub has : HasLinks p x o links
  pub number : n ≡ links.out
  pub tx : TxView
  pub line : CreditRxView
  pub end_is : end_of p x o ≡ Leaving tx line
  pub new_is : new ≡ Leaving tx (record line { taken = line.taken ++ c ∷ [] })
  pub channel : c < sum p.net.channels
  pub elsewhere : owned p.net links.beyond ≡ false
  pub none_waits : (network_of p.net).credit_list x o ≡ []

pub record FlitInHand (p : PartState) (x o : ℕ) (f : Flit) (links : PortLinks) (n : ℕ) (new : End) : Type 0 where
  pub has : HasLinks p x o links
  pub number : n ≡ links.into
  pub rx : RxView
  pub line : CreditTxView
  pub end_is : end_of p links.beyond (opposite_of o) ≡ Entering rx line
  pub new_is : new ≡ Entering (record rx { taken = rx.taken ++ f ∷ [] }) line
  pub continues : Continues (on_channel f.vc (rx.past ++ rx.taken)) f
  pub crossing : MayCross rx.link f
  pub channel : f.vc < sum p.net.channels
  pub goal : f.lane.dst < node_count p.net.mesh
  pub elsewhere : owned p.net links.beyond ≡ false
  pub none_waits : (network_of p.net).out links.beyond (opposite_of o) ≡ []

module _ {p : PartState} {x o : ℕ} {links : PortLinks} (has : HasLinks p x o links) where
  pub linked_then : (shape p.opening).neighbour x o ≡ Some links.beyond
  unfolding net_shape
  linked_then = rw (← has.part.config.mesh) (linked has)

  pub back_then : (shape p.opening).neighbour links.beyond (opposite_of o) ≡ Some x
  unfolding net_shape
  back_then = rw (← has.part.config.mesh) (back has)

  -- the end is looked up by its number
  pub credit_taken : {c n : ℕ} {new : End} (end : End) → n ≡ links.out → end ≡ get_or p.ends n end
      → (link_at p.net (link_out p.net x o)).credits ≡ [] → CreditPopped end c new
      → CreditInHand p x o c links n new
  credit_taken {c} {n} {new} end number looked empty popped =
      let by = credit_popped end new c popped in
      let end_is : end_of p x o ≡ Leaving by.0 by.1 = sym (out_looked_up has n end number looked) ∙ by.2 in
      let is = is_leaving p has.part x o links.beyond by.0 by.1 linked_then end_is in
      let channels : by.1.link.channels ≡ sum p.net.channels =
      ap (λ (l : Rattle.worm_links.specs.declared.LinkCfg.LinkCfg). l.channels) is.line
      ∙ (is.link.same_channels ∙ ap sum (sym has.part.config.channels)) in
      let channel : c < sum p.net.channels = subst (λ (n : ℕ). c < n) channels by.4 in
      let list : (link_at p.net links.out).credits ≡ [] =
      ap (λ (k : ℕ). (link_at p.net k).credits) (sym (out_here has)) ∙ empty in
      record {
        has = has;
        number = number;
        tx = by.0;
        line = by.1;
        end_is = end_is;
        new_is = by.3;
        channel = channel;
        elsewhere = is.far_elsewhere;
        none_waits = out_credits has ∙ list;
      }

  pub flit_off : {f : Flit} {n : ℕ} {new : End} (end : End) → n ≡ links.into → end ≡ get_or p.ends n end
      → (link_at p.net (link_into p.net x o)).flits ≡ [] → FlitPopped end f new
      → FlitInHand p x o f links n new
  flit_off {f} {n} {new} end number looked empty popped =
      let by = flit_popped end new f popped in
      let end_is : end_of p links.beyond (opposite_of o) ≡ Entering by.0 by.1 =
      sym (into_looked_up has n end number looked) ∙ by.2 in
      let is = is_entering p has.part links.beyond (opposite_of o) x by.0 by.1 back_then end_is in
      let channels : by.0.link.channels ≡ sum p.net.channels =
      is.link.same_channels ∙ ap (λ (counts : List ℕ). sum counts) (sym has.part.config.channels) in
      let channel : f.vc < sum p.net.channels = subst (λ (n : ℕ). f.vc < n) channels by.5.channel in
      let mesh : by.0.link.mesh ≡ p.net.mesh = is.link.same_mesh ∙ sym has.part.config.mesh in
      let list : (link_at p.net links.into).flits ≡ [] =
      ap (λ (k : ℕ). (link_at p.net k).flits) (sym (into_here has)) ∙ empty in
      record {
        has = has;
        number = number;
        rx = by.0;
        line = by.1;
        end_is = end_is;
        new_is = by.3;
        continues = by.4;
        crossing = by.5;
        channel = channel;
        goal = subst (λ (ks : List ℕ). f.lane.dst < node_count ks) mesh by.5.destination;
        elsewhere = is.near_elsewhere;
        none_waits = into_flits has ∙ list;
      }

-- it is put down, and the part stays a part
pub credit_put : {p : PartState} {x o c : ℕ} {links : PortLinks} {n : ℕ} {new : End}
    → (hand : CreditInHand p x o c links n new) (net : NetState) → ComesBackBy p.net x o c net
    → IsPart (record p { net = net; ends = slice_set p.ends n new })
    × CreditComes x o p (record p { net = net; ends = slice_set p.ends n new })
    × IsSamePart p (record p { net = net; ends = slice_set p.ends n new })
credit_put {p} {x} {o} {c} {links} {n} {new} hand net came =
    let N = network_of p.net in
    let y = links.beyond in
    let q = opposite_of o in
    let comes : ComesBack p.net y q c net = of_beyond hand.has (λ (z : ℕ). ComesBack p.net z q c net) came in
    let y_back : neighbour_of p.net.mesh y q ≡ Some x = back hand.has in
    let twice : opposite_of q ≡ o = Rattle.worm_mesh.proofs.Neighbours.opposite_twice o in
    let after_it : network_of net ≡ record N
    { credit_list = Rattle.worm_theory.specs.Network.put2 N.credit_list x o (N.credit_list x o ++ c ∷ []) }
    = comes.after_it x y_back ∙ ap (λ (k : ℕ).
    record N {
      credit_list = Rattle.worm_theory.specs.Network.put2 N.credit_list x k
          (N.credit_list x k ++ c ∷ []);
    }) twice in
    let config = same_when_linked p.net net _ _ comes.exact in
    let made = credit_comes p hand.has.part x o y (linked_then hand.has) net config hand.tx hand.line c hand.end_is
    after_it in
    let place : n ≡ links_before p.net.mesh x o = hand.number ∙ out_is hand.has in
    let to : with_end p x o (Leaving hand.tx (record hand.line { taken = hand.line.taken ++ c ∷ [] })) net
    ≡ record p { net = net; ends = slice_set p.ends n new }
    = λ t. record p { net = net; ends = slice_set p.ends (sym place t) (sym hand.new_is t) } in
    let exact_net : after_credit_back p.net y q c ≡ net = sym comes.exact in (
      subst IsPart to made,
      record {
        beyond = y;
        tx = hand.tx;
        back = hand.line;
        credit = c;
        linked = linked hand.has;
        end = hand.end_is;
        none_waits = hand.none_waits;
        exact = sym (ap (λ (m : NetState). with_end p x o
            (Leaving hand.tx (record hand.line { taken = hand.line.taken ++ c ∷ [] })) m) exact_net ∙ to);
      },
      record { config = config; opening = refl; pairs = refl },
    )

pub flit_put : {p : PartState} {x o : ℕ} {f : Flit} {links : PortLinks} {n : ℕ} {new : End}
    → (hand : FlitInHand p x o f links n new) (net : NetState) → ArrivesBy p.net x o f net
    → IsPart (record p { net = net; ends = slice_set p.ends n new })
    × FlitComes x o p (record p { net = net; ends = slice_set p.ends n new })
    × IsSamePart p (record p { net = net; ends = slice_set p.ends n new })
flit_put {p} {x} {o} {f} {links} {n} {new} hand net came =
    let N = network_of p.net in
    let y = links.beyond in
    let q = opposite_of o in
    let comes : Arrives p.net y q f net = of_beyond hand.has (λ (z : ℕ). Arrives p.net z q f net) came in
    let after_it : network_of net ≡ record N
    { out = Rattle.worm_theory.specs.Network.put2 N.out y q (N.out y q ++ f ∷ []) } = comes.after_it in
    let config = same_when_linked p.net net _ _ comes.exact in
    let made = flit_comes p hand.has.part y q x (back_then hand.has) net config hand.rx hand.line f hand.end_is
    hand.continues hand.crossing after_it in
    let place : n ≡ links_before p.net.mesh y q = hand.number ∙ into_is hand.has in
    let to : with_end p y q (Entering (record hand.rx { taken = hand.rx.taken ++ f ∷ [] }) hand.line) net
    ≡ record p { net = net; ends = slice_set p.ends n new }
    = λ t. record p { net = net; ends = slice_set p.ends (sym place t) (sym hand.new_is t) } in
    let exact_net : after_arriving p.net y q f ≡ net = sym comes.exact in (
      subst IsPart to made,
      record {
        beyond = y;
        rx = hand.rx;
        give = hand.line;
        flit = f;
        linked = linked hand.has;
        end = hand.end_is;
        none_waits = hand.none_waits;
        exact = sym (ap (λ (m : NetState). with_end p y q
            (Entering (record hand.rx { taken = hand.rx.taken ++ f ∷ [] }) hand.line) m) exact_net ∙ to);
      },
      record { config = config; opening = refl; pairs = refl },
    )
