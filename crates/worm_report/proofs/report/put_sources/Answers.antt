use Rattle.std.proofs.Common.{arith}
use Rattle.worm_report.specs.Report.{source_rows}
use Rattle.worm_report.specs.Seen.{seen}
use Rattle.worm_report.proofs.Written.{below_none, below_then, below_stop}
use Rattle.worm_report.proofs.report.put_sources.Goals as goal

pub loop-src-init : goal.loop-src-init
loop-src-init g c = below_none (λ src. source_rows (seen c.args.busy.now.net.now) src)

pub returns-in_err-put_source : goal.returns-in_err-put_source
returns-in_err-put_source g c = below_stop (λ src. source_rows (seen c.args.busy.now.net.now) src) c.loop-src.src
    (seen c.args.busy.now.net.now).nodes (omega (
      arith,
      c.loop-src-test.true,
      c.nodes-src-end.ensures.value,
    )) c.from_residual.ensures.1 c.loop-src.invariant (c.in_err-put_source.ensures)

pub loop-src-preserved : goal.loop-src-preserved
loop-src-preserved g c = below_then (λ src. source_rows (seen c.args.busy.now.net.now) src) c.loop-src.src
    c.loop-src.invariant (c.in_ok-put_source.ensures)
