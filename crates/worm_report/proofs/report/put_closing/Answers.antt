use Rattle.worm_report.specs.declared.row.Row.TheVariants.{NotOffered, Total}
use Rattle.std.proofs.Common.{[], ◌∷◌}
use Rattle.worm_report.specs.Seen.{seen}
use Rattle.worm_report.proofs.Written.{then_breaks_off, same_broken_off, breaks_off}
use Rattle.worm_report.proofs.report.put_closing.Goals as goal

pub returns : goal.returns
returns g c = then_breaks_off (NotOffered c.args.summary.now.not_offered ∷ [])
    (Total (seen c.args.net.now).injected (seen c.args.net.now).arrived ∷ []) c.in_ok-put_row.ensures.written
    (same_broken_off _ _ (cc (c.totals-totals.ensures.injected, c.totals-totals.ensures.delivered)) c.put_row-2.ensures)

pub returns-in_err-put_row : goal.returns-in_err-put_row
returns-in_err-put_row g c =
    breaks_off (NotOffered c.args.summary.now.not_offered ∷ [])
    (Total (seen c.args.net.now).injected (seen c.args.net.now).arrived) []
    c.from_residual.ensures.1 c.in_err-put_row.ensures.written
