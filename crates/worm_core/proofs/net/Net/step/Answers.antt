use Rattle.std.proofs.Common.{rules, subst}
use Rattle.worm_region.specs.Answers.{Answers, ArbitersStand}
use Rattle.worm_region.specs.Runs.{event_of}
use Rattle.worm_region.specs.State.{NetState, IsNet}
use Rattle.worm_core.specs.StepMoves.{MovesOneLane}
use Rattle.worm_core.proofs.Headline.{delivers}
use Rattle.worm_core.proofs.Lifting.{net_answers}
use Rattle.worm_core.proofs.StepMoves.{moves_one_lane}
use Rattle.worm_region.proofs.ArbitersStand.{arbiters_stand}
use Rattle.worm_core.proofs.net.Net.step.Goals as goal
use Rattle.worm_core.proofs.net.Net.step.Goals.{After-step}

-- what is left is sound, and the region's reply is a network's answer
answered : (c : goal.After-step) → IsNet c.step.new.self
    × Answers c.self.inside.region (event_of c.args.step.now) c.step.result c.step.new.self
answered c = net_answers c.self.inside.region c.step.new.self
    (event_of c.args.step.now) c.step.result c.self.invariant c.step.ensures.replies

pub invariant_of-self : goal.invariant_of-self
invariant_of-self c = (answered (goal.at.invariant_of-self c).After-step).0

pub returns-clause-answers : goal.returns-clause-answers
returns-clause-answers c =
    subst (λ (s : NetState). Answers s (event_of c.args.step.now) c.step.result c.step.new.self) c.self.view_is
    (answered (goal.at.returns-clause-answers c).After-step).1

pub returns-clause-moves : goal.returns-clause-moves
returns-clause-moves c =
    subst (λ (s : NetState). MovesOneLane s (event_of c.args.step.now) c.step.result c.step.new.self) c.self.view_is
    (moves_one_lane c.self.inside.region c.step.new.self (event_of c.args.step.now) c.step.result c.self.invariant
    (answered (goal.at.returns-clause-moves c).After-step).1)

pub returns-clause-sound : goal.returns-clause-sound
returns-clause-sound c = (answered (goal.at.returns-clause-sound c).After-step).0

pub returns-clause-delivers : goal.returns-clause-delivers
returns-clause-delivers c =
    delivers c.step.new.self (answered (goal.at.returns-clause-delivers c).After-step).0

pub returns-clause-pointers : goal.returns-clause-pointers
returns-clause-pointers c =
    subst (λ (s : NetState). ArbitersStand s c.step.new.self) c.self.view_is
    (arbiters_stand c.self.inside.region c.step.new.self (event_of c.args.step.now) c.step.result
    (answered (goal.at.returns-clause-pointers c).After-step).1)

pub step-requires : goal.step-requires
step-requires c = c.self.invariant.all_owned

pub returns-clause-asked : goal.returns-clause-asked
returns-clause-asked c = search rules
