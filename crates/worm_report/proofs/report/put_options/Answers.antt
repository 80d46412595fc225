use Rattle.worm_report.specs.declared.row.Row.TheVariants.{Header, Options}
use Rattle.std.proofs.Common.{[], ◌∷◌}
use Rattle.worm_report.proofs.Written.{rows_then, rows_stop}
use Rattle.worm_report.proofs.report.put_options.Goals as goal

pub returns : goal.returns
returns g c = rows_then (Header ∷ []) (Options c.args.summary.now.turns c.args.summary.now.workers
    c.args.summary.now.drain ∷ []) c.in_ok-put_row.ensures.written c.put_row-2.ensures.written

pub returns-in_err-put_row : goal.returns-in_err-put_row
returns-in_err-put_row g c =
    rows_stop (Header ∷ []) (Options c.args.summary.now.turns c.args.summary.now.workers c.args.summary.now.drain ∷ [])
    c.from_residual.ensures.1 c.in_err-put_row.ensures.written
