use Rattle.std.proofs.Common.{inl, inr, refl, arith, sym, subst, ◌∙◌}
use Rattle.worm_region.specs.declared.owner.Owner.{Owner}
use Rattle.worm_split.specs.Apart.{IsKept}
use Rattle.worm_split.specs.PartState.{IsPart, part_state}
use Rattle.worm_split.proofs.ComesByEnd.{CreditInHand, credit_taken, credit_put}
use Rattle.worm_split.proofs.EndsKnown.{HasLinks, ends_elsewhere_here, out_end_bound, port_linked}
use Rattle.worm_split.proofs.NothingCame.{nothing_off, still_same}
use Rattle.worm_split.proofs.part.Part.pull_credit.Goals as goal
use Rattle.worm_split.proofs.part.Part.pull_credit.Goals.{In-Some, In-Some-pop_credit}

-- the links of the port
linked : (c : In-Some)
    → let i = c.self.inside in
    HasLinks (part_state i.region i.ends.items i.opening.value i.pairs.value.items) c.args.node c.args.port
    c.in-Some.links
linked c = record {
  part = c.self.invariant.0;
  framed = c.recall.ensures.framed;
  at = sym c.in-Some.is ∙ c.links_at.ensures;
}

pub has_credit_back-requires : goal.has_credit_back-requires
has_credit_back-requires c = port_linked (linked (goal.at.has_credit_back-requires c).In-Some)

pub index-requires : goal.index-requires
index-requires c = omega (arith, out_end_bound (linked (goal.at.index-requires c).In-Some) _ c.from-number.ensures)

pub index_mut-requires : goal.index_mut-requires
index_mut-requires c =
    omega (arith, out_end_bound (linked (goal.at.index_mut-requires c).In-Some) _ c.from-number.ensures)

-- the credit that came off
in_hand : (c : In-Some-pop_credit)
    → let i = c.self.inside in
    CreditInHand (part_state i.region i.ends.items i.opening.value i.pairs.value.items) c.args.node c.args.port
    c.in-Some-pop_credit.vc c.in-Some.links c.from-number.result c.pop_credit.new.end
in_hand c = credit_taken (record {
  part = c.self.invariant.0;
  framed = c.recall.ensures.framed;
  at = sym c.in-Some.is ∙ c.links_at.ensures;
}) c.index_mut.result.now c.from-number.ensures c.index_mut.ensures.value
    (c.has_credit_back.ensures.0 c.if-has_credit_back.false) c.in-Some-pop_credit.ensures.some

pub arrive_credit-requires-clause-crosses : goal.arrive_credit-requires-clause-crosses
arrive_credit-requires-clause-crosses c =
    let here = goal.at.arrive_credit-requires-clause-crosses c in
    ends_elsewhere_here (linked here.In-Some) (in_hand here.In-Some-pop_credit).elsewhere

pub arrive_credit-requires-clause-empty : goal.arrive_credit-requires-clause-empty
arrive_credit-requires-clause-empty c = c.has_credit_back.ensures.0 c.if-has_credit_back.false

pub arrive_credit-requires-clause-channel : goal.arrive_credit-requires-clause-channel
arrive_credit-requires-clause-channel c =
    (in_hand (goal.at.arrive_credit-requires-clause-channel c).In-Some-pop_credit).channel

pub invariant_of-self-2 : goal.invariant_of-self-2
invariant_of-self-2 c =
    let i = c.self.inside in
    let put = credit_put (in_hand (goal.at.invariant_of-self-2 c).In-Some-pop_credit) c.arrive_credit.new.self
    c.arrive_credit.ensures in
    (put.0, subst (λ (w : Owner). IsKept i.opening.value w i.kept) (sym put.2.config.own) c.self.invariant.1)

pub returns : goal.returns
returns c =
    let put = credit_put (in_hand (goal.at.returns c).In-Some-pop_credit) c.arrive_credit.new.self
    c.arrive_credit.ensures in
    rw (← c.self.view_is) (record { pulls = (refl, inr put.1); same = put.2 })

pub returns-in_default : goal.returns-in_default
returns-in_default c = record { pulls = (refl, inl refl); same = still_same c.args.self.now _ refl }

pub returns-then-not-is_leaving : goal.returns-then-not-is_leaving
returns-then-not-is_leaving c = record { pulls = (refl, inl refl); same = still_same c.args.self.now _ refl }

pub returns-then-has_credit_back : goal.returns-then-has_credit_back
returns-then-has_credit_back c = record { pulls = (refl, inl refl); same = still_same c.args.self.now _ refl }

-- where nothing came off

pub returns-in_default-pop_credit : goal.returns-in_default-pop_credit
returns-in_default-pop_credit c =
    let i = c.self.inside in
    let still = nothing_off (part_state i.region i.ends.items i.opening.value i.pairs.value.items) c.from-number.result
    c.index_mut.result.now c.pop_credit.new.end c.index_mut.ensures.value c.in_default-pop_credit.ensures.none
    ∙ c.self.view_is in
    record { pulls = (refl, inl still); same = still_same c.args.self.now _ still }

pub invariant_of-self : goal.invariant_of-self
invariant_of-self c =
    let i = c.self.inside in
    let still = nothing_off (part_state i.region i.ends.items i.opening.value i.pairs.value.items) c.from-number.result
    c.index_mut.result.now c.pop_credit.new.end c.index_mut.ensures.value c.in_default-pop_credit.ensures.none in
    (subst IsPart (sym still) c.self.invariant.0, c.self.invariant.1)
