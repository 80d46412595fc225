use Rattle.worm_report.specs.Report.{options_rows, stops_rows}
use Rattle.worm_report.proofs.Written.{rows_stop, rows_then}
use Rattle.worm_report.proofs.report.put_opening.Goals as goal

pub returns-in_err-put_options : goal.returns-in_err-put_options
returns-in_err-put_options g c =
    rows_stop (options_rows c.args.summary.now) (stops_rows c.args.summary.now.stops) c.from_residual.ensures.1
    c.in_err-put_options.ensures

pub returns : goal.returns
returns g c =
    rows_then (options_rows c.args.summary.now) (stops_rows c.args.summary.now.stops) c.in_ok-put_options.ensures
    c.put_stops.ensures
