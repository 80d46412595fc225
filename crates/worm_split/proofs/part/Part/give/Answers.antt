use Rattle.std.proofs.Common.{◌≡◌, ◌↔◌, false, inr, arith, ap, subst, sym, ◌∙◌}
use Rattle.std.specs.Prelude.{IsTrue}
use Rattle.std.proofs.lemmas.Bool.{true≢false}
use Rattle.worm_theory.specs.Steps.{GiveCredit, IsThere}
use Rattle.worm_region.specs.Shape.{net_shape}
use Rattle.worm_region.specs.State.{shape}
use Rattle.worm_split.specs.Ends.{enters_by}
use Rattle.worm_split.specs.PartState.{PartState, part_state}
use Rattle.worm_split.specs.PartTurns.{ComesBy}
use Rattle.worm_split.proofs.EndsKnown.{HasLinks, into_looked_up, into_end_bound, linked}
use Rattle.worm_split.proofs.Staying.{comes_means}
use Rattle.worm_split.proofs.part.Part.give.Goals as goal
use Rattle.worm_split.proofs.part.Part.give.Goals.{After-is_entering, After-links_beyond-links}
use Rattle.worm_split.proofs.part.Part.give.Given as given

pub links_beyond-links-requires : goal.links_beyond-links-requires
unfolding net_shape
links_beyond-links-requires g c =
    (subst (λ (p : PartState). IsThere (shape p.net) (GiveCredit c.args.node c.args.port c.args.vc))
    (sym c.self.view_is) c.requires.there).1

pub give_across-requires-clause-node : goal.give_across-requires-clause-node
unfolding net_shape
give_across-requires-clause-node g c = c.requires.there.0

pub give_across-requires-clause-channel : goal.give_across-requires-clause-channel
unfolding net_shape
give_across-requires-clause-channel g c = c.requires.there.2

-- the link into the port
entering : (g : given.Over) (c : After-links_beyond-links g)
    → let i = c.self.inside in
    HasLinks (part_state i.region i.ends.items i.opening.value i.pairs.value.items) c.args.node c.args.port
    c.links_beyond-links.result
entering g c =
    record { part = c.self.invariant.0; framed = c.recall.ensures.framed; at = c.links_beyond-links.ensures }

pub index-requires : goal.index-requires
index-requires g c =
    let has = entering g (goal.at.index-requires g c).After-links_beyond-links in
    omega (arith, into_end_bound has c.from.result c.from.ensures)

-- what the end says of where the link comes from
told : (g : given.Over) (c : goal.After-is_entering g)
    → IsTrue c.is_entering.result ↔ ComesBy c.args.self.now c.args.node c.args.port
told g c =
    let i = c.self.inside in
    let p : PartState = part_state i.region i.ends.items i.opening.value i.pairs.value.items in
    let links = c.links_beyond-links.result in
    let has : HasLinks p c.args.node c.args.port links =
    record { part = c.self.invariant.0; framed = c.recall.ensures.framed; at = c.links_beyond-links.ensures } in
    rw (← c.self.view_is) (comes_means p c.args.node c.args.port links.beyond c.is_entering.result (linked has)
    (c.is_entering.ensures
    ∙ ap enters_by (into_looked_up has c.from.result c.index.result.now c.from.ensures c.index.ensures)))

stays : (g : given.Over) (c : goal.After-is_entering g) → c.is_entering.result ≡ false
    → ComesBy c.args.self.now c.args.node c.args.port → ⊥
stays g c no_it comes = true≢false (sym ((told g c).1 comes) ∙ no_it)

pub give_across-requires-clause-comes : goal.give_across-requires-clause-comes
give_across-requires-clause-comes g c =
    (told g (goal.at.give_across-requires-clause-comes g c).After-is_entering).0 c.if-is_entering.true

pub give_within-requires-clause-stays : goal.give_within-requires-clause-stays
give_within-requires-clause-stays g c =
    stays g (goal.at.give_within-requires-clause-stays g c).After-is_entering c.if-is_entering.false

pub returns-else-is_entering-clause-gives : goal.returns-else-is_entering-clause-gives
returns-else-is_entering-clause-gives g c = inr (
  stays g (goal.at.returns-else-is_entering-clause-gives g c).After-is_entering c.if-is_entering.false,
  c.give_within.ensures.gives,
)
