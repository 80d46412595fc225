use Rattle.std.proofs.Common.{Ok}
use Rattle.worm_theory.specs.Steps.{TakeCredit}
use Rattle.worm_region.specs.Answers.{moved_of}
use Rattle.worm_region.specs.Replies.{Replies}
use Rattle.worm_region.specs.Workable.{IsWorkable}
use Rattle.worm_region.proofs.GetAgrees.{get_answers, credit_fits}
use Rattle.worm_region.proofs.LinkedPorts.{port_inside}
use Rattle.worm_region.proofs.ReachedBySteps.{answered_inside}
use Rattle.worm_region.proofs.region.Region.take_credit.Goals as goal
use Rattle.worm_region.proofs.region.Region.take_credit.Goals.{After-take_credit}

pub take_credit-requires-clause-front : goal.take_credit-requires-clause-front
take_credit-requires-clause-front c =
    credit_fits c.self.inside.fabric c.args.node c.args.port c.self.invariant
    (port_inside c.args.node c.args.port c.self.view_is c.requires)

-- what it leaves, and what its answer means
took : (c : After-take_credit) →
    let new = c.take_credit.new.self in
    IsWorkable new
    × Replies c.args.self.now (TakeCredit c.args.node c.args.port) (Ok (moved_of c.take_credit.result)) new
took c =
    answered_inside _ _ _ (TakeCredit c.args.node c.args.port) (Ok (moved_of c.take_credit.result)) c.self.view_is
    (get_answers c.self.inside.fabric c.args.node c.args.port c.self.invariant
    (port_inside c.args.node c.args.port c.self.view_is c.requires) c.take_credit.result c.take_credit.new.self
    c.take_credit.ensures.enabled c.take_credit.ensures.after)

pub invariant_of-self : goal.invariant_of-self
invariant_of-self c = (took (goal.at.invariant_of-self c).After-take_credit).0

pub returns : goal.returns
returns c = (took (goal.at.returns c).After-take_credit).1
