use Rattle.std.proofs.Common.{[], ◌∷◌, ◌++◌}
use Rattle.worm_report.specs.declared.row.Row.TheVariants.{NotOffered, Total}
use Rattle.worm_report.specs.Report.{opening_rows, flits_rows, closing_rows}
use Rattle.worm_report.specs.Seen.{seen}
use Rattle.worm_report.proofs.Written.{rows_then, breaks_off, breaks_off_before, then_breaks_off}
use Rattle.worm_report.proofs.report.put_report.Goals as goal

pub returns-in_err-put_flits : goal.returns-in_err-put_flits
returns-in_err-put_flits g c =
    let net = seen c.args.net.now in
    breaks_off (opening_rows c.args.summary.now ++ flits_rows net) (NotOffered c.args.summary.now.not_offered)
    (Total net.injected net.arrived ∷ []) c.from_residual-in_err-put_flits.ensures.1
    (rows_then (opening_rows c.args.summary.now) (flits_rows net) c.in_ok-put_opening.ensures
    c.in_err-put_flits.ensures)

pub returns : goal.returns
returns g c = then_breaks_off (opening_rows c.args.summary.now ++ flits_rows (seen c.args.net.now))
    (closing_rows (seen c.args.net.now) c.args.summary.now)
    (rows_then (opening_rows c.args.summary.now)
    (flits_rows (seen c.args.net.now)) c.in_ok-put_opening.ensures c.in_ok-put_flits.ensures) c.put_closing.ensures

pub returns-in_err-put_opening : goal.returns-in_err-put_opening
returns-in_err-put_opening g c =
    let net = seen c.args.net.now in
    breaks_off_before (opening_rows c.args.summary.now) (flits_rows net) (NotOffered c.args.summary.now.not_offered)
    (Total net.injected net.arrived ∷ []) c.from_residual.ensures.1 c.in_err-put_opening.ensures
