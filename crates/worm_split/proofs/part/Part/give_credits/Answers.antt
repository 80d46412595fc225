use Rattle.std.proofs.Common.{refl, subst}
use Rattle.worm_router.specs.Busy.{IsSetOf, OweByLinks, owes}
use Rattle.worm_region.specs.State.{router_at}
use Rattle.worm_region.specs.Workable.{IsWorkable}
use Rattle.worm_split.specs.PartState.{PartState}
use Rattle.worm_region.proofs.LowestGiven.{owing_all, owing_next, owing_start}
use Rattle.worm_split.proofs.CreditsGiven.{gave_more, given_still}
use Rattle.worm_split.proofs.PartLoops.{same_still}
use Rattle.worm_split.proofs.part.Part.give_credits.Goals as goal

pub loop-port-init : goal.loop-port-init
loop-port-init g c =
    owing_start c.args.node c.owing-left.result c.args.self.now.net
    (subst (λ (p : PartState). IsWorkable p.net) c.self.view_is c.owing-left.ensures.sound) c.requires.node
    (subst (λ (p : PartState). IsSetOf owes (router_at p.net c.args.node) c.owing-left.result) c.self.view_is
    c.owing-left.ensures.owing)
    (subst (λ (p : PartState). OweByLinks p.net.mesh c.args.node c.owing-left.result) c.self.view_is
    c.owing-left.ensures.links) (record { each = (refl, refl); same = same_still c.args.self.now })

pub returns-clause-gives : goal.returns-clause-gives
returns-clause-gives g c =
    (owing_all c.loop-port.invariant (given_still c.args.node c.args.self.now c.loop-port.self)
    c.in_default.ensures.0).each

pub loop-port-preserved : goal.loop-port-preserved
loop-port-preserved g c =
    let sound = subst (λ (p : PartState). IsWorkable p.net) c.self-in-Some.view_is c.recall.ensures in
    gave_more c.args.node c.args.self.now c.loop-port.self c.give.new.self c.loop-port.left c.pop_port_lowest.new.self
    c.in-Some.port c.in-Some.vc c.loop-port.invariant c.in-Some.ensures.0 c.in-Some.ensures.1
    c.give.ensures.gives c.give.ensures.same sound

pub give-requires-clause-there : goal.give-requires-clause-there
give-requires-clause-there g c =
    (owing_next c.loop-port.invariant c.in-Some.ensures.0 c.in-Some.ensures.1).there

pub give-requires-clause-owed : goal.give-requires-clause-owed
give-requires-clause-owed g c =
    (owing_next c.loop-port.invariant c.in-Some.ensures.0 c.in-Some.ensures.1).owes
