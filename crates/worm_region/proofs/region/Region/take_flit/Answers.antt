use Rattle.std.proofs.Common.{Ok}
use Rattle.worm_theory.specs.Steps.{Take}
use Rattle.worm_region.specs.Answers.{moved_of}
use Rattle.worm_region.specs.Replies.{Replies}
use Rattle.worm_region.specs.Workable.{IsWorkable}
use Rattle.worm_region.proofs.TakeAgrees.{take_answers, front_fits}
use Rattle.worm_region.proofs.LinkedPorts.{port_inside}
use Rattle.worm_region.proofs.ReachedBySteps.{answered_inside}
use Rattle.worm_region.proofs.region.Region.take_flit.Goals as goal
use Rattle.worm_region.proofs.region.Region.take_flit.Goals.{After-take_flit}

pub take_flit-requires-clause-front : goal.take_flit-requires-clause-front
take_flit-requires-clause-front c =
    front_fits c.self.inside.fabric c.args.node c.args.port c.self.invariant
    (port_inside c.args.node c.args.port c.self.view_is c.requires)

-- what it leaves, and what its answer means
took : (c : After-take_flit) →
    let new = c.take_flit.new.self in
    IsWorkable new
    × Replies c.args.self.now (Take c.args.node c.args.port) (Ok (moved_of c.take_flit.result)) new
took c =
    answered_inside _ _ _ (Take c.args.node c.args.port) (Ok (moved_of c.take_flit.result)) c.self.view_is
    (take_answers c.self.inside.fabric c.args.node c.args.port c.self.invariant
    (port_inside c.args.node c.args.port c.self.view_is c.requires) c.take_flit.result c.take_flit.new.self
    c.take_flit.ensures.enabled c.take_flit.ensures.after)

pub invariant_of-self : goal.invariant_of-self
invariant_of-self c = (took (goal.at.invariant_of-self c).After-take_flit).0

pub returns : goal.returns
returns c = (took (goal.at.returns c).After-take_flit).1
