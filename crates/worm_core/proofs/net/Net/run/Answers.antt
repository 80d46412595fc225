use Rattle.std.proofs.Common.{rules, map, take}
use Rattle.worm_region.specs.Runs.{event_of}
use Rattle.worm_core.proofs.Headline.{nothing_follows}
use Rattle.worm_core.proofs.RunSteps.{answered_stand, run_of}
use Rattle.worm_core.proofs.net.Net.run.Goals as goal

pub returns-clause-led : goal.returns-clause-led
returns-clause-led c =
    run_of c.args.self.now c.take_steps-so_far.new.self c.args.steps.now c.take_steps-so_far.result.done
    c.take_steps-so_far.ensures.answered

pub returns-clause-pointers : goal.returns-clause-pointers
returns-clause-pointers c =
    answered_stand c.args.self.now c.take_steps-so_far.new.self
    (take c.take_steps-so_far.result.done c.args.steps.now) c.take_steps-so_far.ensures.answered

pub returns-clause-marks : goal.returns-clause-marks
returns-clause-marks c =
    nothing_follows c.args.self.now c.take_steps-so_far.new.self c.recall.ensures.sound
    (map event_of (take c.take_steps-so_far.result.done c.args.steps.now))
    (run_of c.args.self.now c.take_steps-so_far.new.self c.args.steps.now c.take_steps-so_far.result.done
    c.take_steps-so_far.ensures.answered).led

pub returns-clause-answered : goal.returns-clause-answered
returns-clause-answered c = search rules

pub returns-clause-stopped : goal.returns-clause-stopped
returns-clause-stopped c = search rules
