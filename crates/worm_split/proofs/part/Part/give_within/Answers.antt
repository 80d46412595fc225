use Rattle.std.proofs.Common.{◌≡◌, Ok, true, refl, sym, subst, ◌∙◌}
use Rattle.worm_theory.specs.Steps.{GiveCredit, IsThere}
use Rattle.worm_region.specs.State.{shape}
use Rattle.worm_region.specs.Workable.{owned}
use Rattle.worm_region.specs.declared.owner.Owner.{Owner}
use Rattle.worm_region.specs.declared.step.Moved.TheVariants.{Done}
use Rattle.worm_split.specs.Apart.{IsKept}
use Rattle.worm_split.specs.PartState.{PartState, part_state}
use Rattle.worm_split.specs.PartTurns.{ComesBy}
use Rattle.worm_split.proofs.OwnMoves.{part_with_net}
use Rattle.worm_split.proofs.Staying.{credit_ends_within, gave_within}
use Rattle.worm_split.proofs.part.Part.give_within.Goals as goal

pub give_owed-requires-clause-there : goal.give_owed-requires-clause-there
give_owed-requires-clause-there c =
    subst (λ (q : PartState). IsThere (shape q.net) (GiveCredit c.args.node c.args.port c.args.vc)) (sym c.self.view_is)
    c.requires.there

pub give_owed-requires-clause-within : goal.give_owed-requires-clause-within
give_owed-requires-clause-within c =
    let i = c.self.inside in
    let p : PartState = part_state i.region i.ends.items i.opening.value i.pairs.value.items in
    let here : owned p.net c.args.node ≡ true = (λ t. owned (c.self.view_is t).net c.args.node) ∙ c.requires.own in
    let stays = subst (λ (q : PartState). ComesBy q c.args.node c.args.port
    → ⊥) (sym c.self.view_is) c.requires.stays in
    credit_ends_within p c.self.invariant.0 c.args.node here c.args.port stays

pub invariant_of-self : goal.invariant_of-self
invariant_of-self c =
    let i = c.self.inside in
    let p : PartState = part_state i.region i.ends.items i.opening.value i.pairs.value.items in
    let here : owned p.net c.args.node ≡ true = (λ t. owned (c.self.view_is t).net c.args.node) ∙ c.requires.own in
    let stays = subst (λ (q : PartState). ComesBy q c.args.node c.args.port
    → ⊥) (sym c.self.view_is) c.requires.stays in
    let made = gave_within p c.self.invariant.0 c.args.node here c.args.port c.args.vc c.give_owed.new.self
    (Ok Done) stays c.give_owed.ensures in (
      part_with_net p c.self.invariant.0 c.give_owed.new.self made.0 made.1,
      subst (λ (w : Owner). IsKept i.opening.value w i.kept) (sym made.1.own) c.self.invariant.1,
    )

pub returns-clause-gives : goal.returns-clause-gives
returns-clause-gives c = rw (← c.self.view_is) ((Ok Done, c.give_owed.ensures, refl), refl)
