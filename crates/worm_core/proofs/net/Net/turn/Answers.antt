use Rattle.std.proofs.Common.{rules}
use Rattle.worm_core.proofs.Headline.{nothing_follows}
use Rattle.worm_core.proofs.net.Net.turn.Goals as goal

pub returns-clause-marks : goal.returns-clause-marks
returns-clause-marks c =
    nothing_follows c.args.self.now c.all_turns-result.new.self c.recall.ensures.sound
    c.all_turns-result.ensures.reaches.steps c.all_turns-result.ensures.reaches.led

pub returns-clause-exact : goal.returns-clause-exact
returns-clause-exact c = search rules
