use Rattle.std.proofs.Common.{arith}
use Rattle.worm_report.specs.Report.{pair_rows}
use Rattle.worm_report.specs.Seen.{seen}
use Rattle.worm_report.proofs.Idle.{idle_source}
use Rattle.worm_report.proofs.Written.{below_none, below_then, below_stop}
use Rattle.worm_report.proofs.report.put_source.Goals as goal

pub loop-dst-init : goal.loop-dst-init
loop-dst-init g c = below_none (λ dst. pair_rows (seen c.args.busy.now.net.now) c.args.src dst)

pub returns-in_err-put_pair : goal.returns-in_err-put_pair
returns-in_err-put_pair g c = below_stop (λ dst. pair_rows (seen c.args.busy.now.net.now) c.args.src dst) c.loop-dst.dst
    (seen c.args.busy.now.net.now).nodes (omega (
      arith,
      c.loop-dst-test.true,
      c.nodes-nodes.ensures.value,
    )) c.from_residual.ensures.1 c.loop-dst.invariant (c.in_err-put_pair.ensures)

pub loop-dst-preserved : goal.loop-dst-preserved
loop-dst-preserved g c = below_then (λ dst. pair_rows (seen c.args.busy.now.net.now) c.args.src dst) c.loop-dst.dst
    c.loop-dst.invariant (c.in_ok-put_pair.ensures)

pub returns-then-lacks_all_from : goal.returns-then-lacks_all_from
returns-then-lacks_all_from g c =
    idle_source c.args.busy.now.net.now c.args.busy.now.lanes.now c.args.src c.args.busy.now.complete c.requires
    (rw (← c.nodes-nodes.ensures.value, ← c.classes.ensures.value)
    (c.lacks_all_from.ensures c.if-lacks_all_from.true))
