use Rattle.std.proofs.Common.{ap, subst}
use Rattle.worm_theory.specs.Steps.{Step as Event, IsThere}
use Rattle.worm_region.specs.Shape.{net_shape}
use Rattle.worm_region.specs.State.{shape}
use Rattle.worm_region.specs.Runs.{event_of}
use Rattle.worm_region.proofs.region.Region.step.Goals as goal

pub feed-requires-clause-node : goal.feed-requires-clause-node
unfolding net_shape
feed-requires-clause-node c =
    (subst (λ (e : Event). IsThere (shape c.args.self.now) e) (ap event_of c.in-Feed.is)
    (c.has.ensures.0 c.if-not-has.false)).0

pub feed-requires-clause-class : goal.feed-requires-clause-class
unfolding net_shape
feed-requires-clause-class c =
    (subst (λ (e : Event). IsThere (shape c.args.self.now) e) (ap event_of c.in-Feed.is)
    (c.has.ensures.0 c.if-not-has.false)).1

pub take_flit-requires : goal.take_flit-requires
unfolding net_shape
take_flit-requires c =
    (subst (λ (e : Event). IsThere (shape c.args.self.now) e) (ap event_of c.in-Take.is)
    (c.has.ensures.0 c.if-not-has.false)).1

pub take_credit-requires : goal.take_credit-requires
unfolding net_shape
take_credit-requires c =
    (subst (λ (e : Event). IsThere (shape c.args.self.now) e) (ap event_of c.in-TakeCredit.is)
    (c.has.ensures.0 c.if-not-has.false)).1
