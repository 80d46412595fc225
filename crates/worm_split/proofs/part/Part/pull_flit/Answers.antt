use Rattle.std.proofs.Common.{inl, inr, refl, arith, sym, subst, ◌∙◌}
use Rattle.worm_region.specs.declared.owner.Owner.{Owner}
use Rattle.worm_split.specs.Apart.{IsKept}
use Rattle.worm_split.specs.PartState.{IsPart, part_state}
use Rattle.worm_split.proofs.ComesByEnd.{FlitInHand, flit_off, flit_put}
use Rattle.worm_split.proofs.EndsKnown.{HasLinks, ends_elsewhere_here, into_end_bound, port_linked}
use Rattle.worm_split.proofs.NothingCame.{nothing_off, still_same}
use Rattle.worm_split.proofs.part.Part.pull_flit.Goals as goal
use Rattle.worm_split.proofs.part.Part.pull_flit.Goals.{In-Some, In-Some-pop_flit}

-- the links of the port
linked : (c : In-Some)
    → let i = c.self.inside in
    HasLinks (part_state i.region i.ends.items i.opening.value i.pairs.value.items) c.args.node c.args.port
    c.in-Some.links
linked c = record {
  part = c.self.invariant.0;
  framed = c.recall.ensures.framed;
  at = sym c.in-Some.is ∙ c.links_at.ensures;
}

pub has_flit_in-requires : goal.has_flit_in-requires
has_flit_in-requires c = port_linked (linked (goal.at.has_flit_in-requires c).In-Some)

pub index-requires : goal.index-requires
index-requires c = omega (arith, into_end_bound (linked (goal.at.index-requires c).In-Some) _ c.from-number.ensures)

pub index_mut-requires : goal.index_mut-requires
index_mut-requires c =
    omega (arith, into_end_bound (linked (goal.at.index_mut-requires c).In-Some) _ c.from-number.ensures)

-- the flit that came off
in_hand : (c : In-Some-pop_flit)
    → let i = c.self.inside in
    FlitInHand (part_state i.region i.ends.items i.opening.value i.pairs.value.items) c.args.node c.args.port
    c.in-Some-pop_flit.flit c.in-Some.links c.from-number.result c.pop_flit.new.end
in_hand c = flit_off (record {
  part = c.self.invariant.0;
  framed = c.recall.ensures.framed;
  at = sym c.in-Some.is ∙ c.links_at.ensures;
}) c.index_mut.result.now c.from-number.ensures c.index_mut.ensures.value
    (c.has_flit_in.ensures.0 c.if-has_flit_in.false) c.in-Some-pop_flit.ensures.some

pub arrive-requires-clause-crosses : goal.arrive-requires-clause-crosses
arrive-requires-clause-crosses c =
    let here = goal.at.arrive-requires-clause-crosses c in
    ends_elsewhere_here (linked here.In-Some) (in_hand here.In-Some-pop_flit).elsewhere

pub arrive-requires-clause-empty : goal.arrive-requires-clause-empty
arrive-requires-clause-empty c = c.has_flit_in.ensures.0 c.if-has_flit_in.false

pub arrive-requires-clause-channel : goal.arrive-requires-clause-channel
arrive-requires-clause-channel c =
    (in_hand (goal.at.arrive-requires-clause-channel c).In-Some-pop_flit).channel

pub arrive-requires-clause-goal : goal.arrive-requires-clause-goal
arrive-requires-clause-goal c =
    (in_hand (goal.at.arrive-requires-clause-goal c).In-Some-pop_flit).goal

pub invariant_of-self-2 : goal.invariant_of-self-2
invariant_of-self-2 c =
    let i = c.self.inside in
    let put = flit_put (in_hand (goal.at.invariant_of-self-2 c).In-Some-pop_flit) c.arrive.new.self
    c.arrive.ensures in
    (put.0, subst (λ (w : Owner). IsKept i.opening.value w i.kept) (sym put.2.config.own) c.self.invariant.1)

pub returns : goal.returns
returns c =
    let put = flit_put (in_hand (goal.at.returns c).In-Some-pop_flit) c.arrive.new.self c.arrive.ensures in
    rw (← c.self.view_is) (record { pulls = (refl, inr put.1); same = put.2 })

pub returns-in_default : goal.returns-in_default
returns-in_default c = record { pulls = (refl, inl refl); same = still_same c.args.self.now _ refl }

pub returns-then-not-is_entering : goal.returns-then-not-is_entering
returns-then-not-is_entering c = record { pulls = (refl, inl refl); same = still_same c.args.self.now _ refl }

pub returns-then-has_flit_in : goal.returns-then-has_flit_in
returns-then-has_flit_in c = record { pulls = (refl, inl refl); same = still_same c.args.self.now _ refl }

-- where nothing came off

pub returns-in_default-pop_flit : goal.returns-in_default-pop_flit
returns-in_default-pop_flit c =
    let i = c.self.inside in
    let still = nothing_off (part_state i.region i.ends.items i.opening.value i.pairs.value.items) c.from-number.result
    c.index_mut.result.now c.pop_flit.new.end c.index_mut.ensures.value c.in_default-pop_flit.ensures.none
    ∙ c.self.view_is in
    record { pulls = (refl, inl still); same = still_same c.args.self.now _ still }

pub invariant_of-self : goal.invariant_of-self
invariant_of-self c =
    let i = c.self.inside in
    let still = nothing_off (part_state i.region i.ends.items i.opening.value i.pairs.value.items) c.from-number.result
    c.index_mut.result.now c.pop_flit.new.end c.index_mut.ensures.value c.in_default-pop_flit.ensures.none in
    (subst IsPart (sym still) c.self.invariant.0, c.self.invariant.1)
