use Rattle.worm_report.specs.Seen.{seen}
use Rattle.worm_report.specs.Report.{delivered_rows, underway_rows}
use Rattle.worm_report.proofs.Written.{rows_stop, rows_then}
use Rattle.worm_report.proofs.report.put_flits.Goals as goal

pub returns-in_err-put_delivered : goal.returns-in_err-put_delivered
returns-in_err-put_delivered g c =
    rows_stop (delivered_rows (seen c.args.net.now)) (underway_rows (seen c.args.net.now)) c.from_residual.ensures.1
    c.in_err-put_delivered.ensures

pub returns : goal.returns
returns g c =
    rows_then (delivered_rows (seen c.args.net.now)) (underway_rows (seen c.args.net.now))
    c.in_ok-put_delivered.ensures c.put_underway.ensures
