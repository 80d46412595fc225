use Rattle.std.proofs.Common.{arith}
use Rattle.worm_term.specs.Lanes.{lane_of}
use Rattle.worm_report.specs.Report.{lane_rows}
use Rattle.worm_report.specs.Seen.{seen}
use Rattle.worm_report.proofs.Written.{below_none, below_then, below_stop, below_all}
use Rattle.worm_report.proofs.report.put_pair.Goals as goal

pub loop-class-init : goal.loop-class-init
loop-class-init g c =
    below_none (λ class. lane_rows (seen c.args.busy.now.net.now) (lane_of c.args.src c.args.dst class))

pub returns-in_err-put_lane : goal.returns-in_err-put_lane
returns-in_err-put_lane g c = below_stop
    (λ class. lane_rows (seen c.args.busy.now.net.now) (lane_of c.args.src c.args.dst class)) c.loop-class.class
    (seen c.args.busy.now.net.now).classes (omega (
      arith,
      c.loop-class-test.true,
      c.classes-class-end.ensures.value,
    )) c.from_residual.ensures.1 c.loop-class.invariant (c.in_err-put_lane.ensures)

pub loop-class-preserved : goal.loop-class-preserved
loop-class-preserved g c = below_then
    (λ class. lane_rows (seen c.args.busy.now.net.now) (lane_of c.args.src c.args.dst class))
    c.loop-class.class c.loop-class.invariant (c.in_ok-put_lane.ensures)

pub returns : goal.returns
returns g c = below_all (λ class. lane_rows (seen c.args.busy.now.net.now) (lane_of c.args.src c.args.dst class))
    c.loop-class.class (seen c.args.busy.now.net.now).classes
    (omega (
      arith,
      c.loop-class-test.false,
      c.loop-class.auto.class-end,
      c.classes-class-end.ensures.value,
    )) c.loop-class.invariant
