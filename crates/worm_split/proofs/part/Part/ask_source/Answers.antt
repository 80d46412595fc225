use Rattle.std.proofs.Common.{◌≡◌, true, ◌∙◌, arith, rules, sym, subst}
use Rattle.std.specs.Result.{result_err}
use Rattle.worm_region.specs.Workable.{owned}
use Rattle.worm_region.specs.declared.owner.Owner.{Owner}
use Rattle.worm_split.specs.Apart.{IsKept}
use Rattle.worm_split.specs.PartState.{PartState, part_state}
use Rattle.worm_split.proofs.OwnMoves.{inside_now, keeps_asked, part_with_net}
use Rattle.std.proofs.lemmas.Grind.{common_steps}
use Rattle.worm_split.proofs.part.Part.ask_source.Goals as goal

pub invariant_of-self : goal.invariant_of-self
invariant_of-self c =
    let i = c.self.inside in
    let p : PartState = part_state i.region i.ends.items i.opening.value i.pairs.value.items in
    let here : owned p.net c.args.node ≡ true = (λ t. owned (c.self.view_is t).net c.args.node) ∙ c.requires.own in
    let kept = keeps_asked p c.self.invariant.0 c.args.node here c.args.entries.now p.net c.ask_source.new.self
    (result_err c.ask_source.result) (inside_now p c.self.invariant.0) c.ask_source.ensures.does.exact in (
      part_with_net p c.self.invariant.0 c.ask_source.new.self kept.0 kept.1,
      subst (λ (w : Owner). IsKept i.opening.value w i.kept) (sym kept.1.own) c.self.invariant.1,
    )

pub returns-then-is_empty-clause-asks : goal.returns-then-is_empty-clause-asks
returns-then-is_empty-clause-asks c = grind (arith, common_steps)

pub returns-clause-asks : goal.returns-clause-asks
returns-clause-asks c = search rules
