use Rattle.std.proofs.Common.{sym, ◌∙◌}
use Rattle.worm_report.proofs.Idle.{idle_lane}
use Rattle.worm_report.specs.Seen.{seen}
use Rattle.worm_report.specs.Report.{lane_rows}
use Rattle.worm_report.proofs.Written.{no_memory}
use Rattle.worm_report.proofs.report.put_lane.Goals as goal

pub returns-then-not-contains : goal.returns-then-not-contains
returns-then-not-contains g c = let r = c.requires in
    idle_lane c.args.busy.now.net.now c.args.busy.now.lanes.now c.args.lane c.args.busy.now.complete r.src r.dst r.class
    (sym c.contains.ensures ∙ c.if-not-contains.true)

pub returns-in-Err : goal.returns-in-Err
returns-in-Err g c = no_memory (lane_rows (seen c.args.busy.now.net.now) c.args.lane)
