use Rattle.worm_report.proofs.LinesCounted.{adds_up}
use Rattle.worm_report.proofs.report.adds_up.Goals as goal

pub returns : goal.returns
returns c = adds_up c.args.net.now c.args.summary.now c.recall.ensures.sound
