use Rattle.std.proofs.Common.{◌≡◌, true, sym, subst, ◌∙◌}
use Rattle.worm_router.specs.Router.{leaving}
use Rattle.worm_region.specs.State.{router_at}
use Rattle.worm_region.specs.Workable.{owned}
use Rattle.worm_region.specs.declared.owner.Owner.{Owner}
use Rattle.worm_split.specs.Apart.{IsKept}
use Rattle.worm_split.specs.PartState.{PartState, part_state}
use Rattle.worm_split.specs.PartTurns.{StaysWithin}
use Rattle.worm_split.proofs.OwnMoves.{part_with_net}
use Rattle.worm_split.proofs.Staying.{sends_within, sent_within}
use Rattle.worm_split.proofs.part.Part.send_within.Goals as goal

pub send-requires-clause-within : goal.send-requires-clause-within
send-requires-clause-within c =
    let i = c.self.inside in
    let p : PartState = part_state i.region i.ends.items i.opening.value i.pairs.value.items in
    let here : owned p.net c.args.node ≡ true = (λ t. owned (c.self.view_is t).net c.args.node) ∙ c.requires.own in
    let stays = subst (λ (q : PartState). StaysWithin q c.args.node
    (leaving (router_at q.net c.args.node) c.args.port c.args.vc)) (sym c.self.view_is) c.requires.stays in
    sends_within p c.self.invariant.0 c.args.node here
    (leaving (router_at p.net c.args.node) c.args.port c.args.vc) stays

pub invariant_of-self : goal.invariant_of-self
invariant_of-self c =
    let i = c.self.inside in
    let p : PartState = part_state i.region i.ends.items i.opening.value i.pairs.value.items in
    let here : owned p.net c.args.node ≡ true = (λ t. owned (c.self.view_is t).net c.args.node) ∙ c.requires.own in
    let stays = subst (λ (q : PartState). StaysWithin q c.args.node
    (leaving (router_at q.net c.args.node) c.args.port c.args.vc)) (sym c.self.view_is) c.requires.stays in
    let made = sent_within p c.self.invariant.0 c.args.node here c.args.port c.args.vc c.send.new.self
    c.recall.ensures.framed c.send.result stays c.send.ensures in (
      part_with_net p c.self.invariant.0 c.send.new.self made.0 made.1,
      subst (λ (w : Owner). IsKept i.opening.value w i.kept) (sym made.1.own) c.self.invariant.1,
    )
