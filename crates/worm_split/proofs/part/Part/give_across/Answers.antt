use Rattle.std.proofs.Common.{◌<◌, sum, arith, sym, subst}
use Rattle.worm_mesh.specs.Address.{node_count}
use Rattle.worm_region.specs.declared.owner.Owner.{Owner}
use Rattle.worm_split.specs.Apart.{IsKept}
use Rattle.worm_split.specs.PartState.{PartState, IsPart, part_state}
use Rattle.worm_split.specs.PartTurns.{ComesBy}
use Rattle.worm_split.proofs.GoesByEnd.{IsGiving, owner_elsewhere, may_give, gave_it, owes_still, giving_there}
use Rattle.worm_split.proofs.EndsKnown.{HasLinks, into_end_bound}
use Rattle.worm_split.proofs.part.Part.give_across.Goals as goal
use Rattle.worm_split.proofs.part.Part.give_across.Goals.{After-index_mut}
use Rattle.worm_split.proofs.part.Part.give_across.Given as given

pub index_mut-requires : goal.index_mut-requires
index_mut-requires g c =
    let i = c.self.inside in
    let p : PartState = part_state i.region i.ends.items i.opening.value i.pairs.value.items in
    let has : HasLinks p c.args.node c.args.port c.links_beyond-links.result =
    record { part = c.self.invariant.0; framed = c.recall.ensures.framed; at = c.links_beyond-links.ensures } in
    omega (arith, into_end_bound has c.from.result c.from.ensures)

-- the credit that is given, and its link
giving : (g : given.Over) (c : After-index_mut g)
    → let i = c.self.inside in
    IsGiving (part_state i.region i.ends.items i.opening.value i.pairs.value.items) c.args.node c.args.port c.args.vc
    c.links_beyond-links.result c.from.result c.index_mut.result.now
giving g c =
    let back = sym c.self.view_is in
    record {
      has = record {
        part = c.self.invariant.0;
        framed = c.recall.ensures.framed;
        at = c.links_beyond-links.ensures;
      };
      comes = subst (λ (q : PartState). ComesBy q c.args.node c.args.port) back c.requires.comes;
      node = subst (λ (q : PartState). c.args.node < node_count q.net.mesh) back c.requires.node;
      channel = subst (λ (q : PartState). c.args.vc < sum q.net.channels) back c.requires.channel;
      number = c.from.ensures;
      looked = c.index_mut.ensures.value;
    }

pub push_credit-requires : goal.push_credit-requires
push_credit-requires g c = may_give (giving g (goal.at.push_credit-requires g c).After-index_mut)

pub gave-requires-clause-there : goal.gave-requires-clause-there
gave-requires-clause-there g c = giving_there (giving g (goal.at.gave-requires-clause-there g c).After-index_mut)

pub gave-requires-clause-crosses : goal.gave-requires-clause-crosses
gave-requires-clause-crosses g c =
    owner_elsewhere (giving g (goal.at.gave-requires-clause-crosses g c).After-index_mut)

pub invariant_of-self : goal.invariant_of-self
invariant_of-self g c =
    let i = c.self.inside in
    let landed = gave_it (giving g (goal.at.invariant_of-self g c).After-index_mut) c.push_credit.new.end
    c.gave.new.self c.if-push_credit.ensures c.gave.ensures in
    (landed.0, subst (λ (w : Owner). IsKept i.opening.value w i.kept) (sym landed.2.config.own) c.self.invariant.1)

pub returns-then-push_credit-clause-gives : goal.returns-then-push_credit-clause-gives
returns-then-push_credit-clause-gives g c =
    let landed = gave_it (giving g (goal.at.returns-then-push_credit-clause-gives g c).After-index_mut)
    c.push_credit.new.end c.gave.new.self c.if-push_credit.ensures c.gave.ensures in
    rw (← c.self.view_is) landed.1

-- where the push came back

pub invariant_of-self-else-push_credit : goal.invariant_of-self-else-push_credit
invariant_of-self-else-push_credit g c =
    let kept = owes_still (giving g (goal.at.invariant_of-self-else-push_credit g c).After-index_mut)
    c.push_credit.new.end c.if-push_credit.ensures in
    (subst IsPart (sym kept.0) c.self.invariant.0, c.self.invariant.1)

pub returns-else-push_credit-clause-gives : goal.returns-else-push_credit-clause-gives
returns-else-push_credit-clause-gives g c =
    let kept = owes_still (giving g (goal.at.returns-else-push_credit-clause-gives g c).After-index_mut)
    c.push_credit.new.end c.if-push_credit.ensures in
    rw (← c.self.view_is) kept.1
