use Rattle.std.proofs.Common.{sym, subst}
use Rattle.worm_router.specs.Rest.{IsAtRest}
use Rattle.worm_region.specs.State.{NetState}
use Rattle.worm_region.specs.Resting.{IsResting, nth_node}
use Rattle.worm_node.specs.declared.node.Node.{Node}
use Rattle.worm_region.proofs.Resting.{found_resting}
use Rattle.worm_region.proofs.fabric.Fabric.is_resting.Goals as goal

pub returns-then-is_resting-clause-resting : goal.returns-then-is_resting-clause-resting
returns-then-is_resting-clause-resting c = λ yes.
    subst (λ (s : NetState). IsResting (nth_node s.nodes c.args.node)) c.self.view_is
    (c.is_resting.ensures c.if-is_resting.true)

pub keep_resting-requires : goal.keep_resting-requires
keep_resting-requires c =
    subst (λ (s : NetState). IsResting (nth_node s.nodes c.args.node)) (sym c.self.view_is)
    (found_resting c.args.self.now c.args.node c.requires.sound c.requires.node
    (subst (λ (n : Node). IsAtRest n.router) c.node.ensures (c.is_at_rest.ensures c.if-not-is_at_rest.false))
    (c.feeds_nothing.ensures c.if-not-feeds_nothing.false))

pub returns-clause-resting : goal.returns-clause-resting
returns-clause-resting c = λ yes.
    found_resting c.args.self.now c.args.node c.requires.sound c.requires.node
    (subst (λ (n : Node). IsAtRest n.router) c.node.ensures (c.is_at_rest.ensures c.if-not-is_at_rest.false))
    (c.feeds_nothing.ensures c.if-not-feeds_nothing.false)
