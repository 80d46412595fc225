use Rattle.std.proofs.Common.{[], ◌∷◌, sym, subst, ◌++◌, rules}
use Rattle.worm_report.specs.declared.row.Row.TheVariants.{Header, Options}
use Rattle.worm_report.specs.Seen.{seen}
use Rattle.worm_report.specs.Report.{opening_rows, stops_rows, flits_rows, closing_rows, report}
use Rattle.worm_report.specs.Writing.{WritesLines}
use Rattle.worm_report.proofs.Written.{Answer, none_begun, report_closed}
use Rattle.worm_report.proofs.report.write_report.Goals as goal

pub returns-clause-text : goal.returns-clause-text
returns-clause-text g c =
    let contents = g.W.Write.contents in
    let net = seen c.args.net.now in
    let rows = opening_rows c.args.summary.now ++ flits_rows net ++ closing_rows net c.args.summary.now in
    let same = c.put_report-made.ensures.written.same in
    let given = subst (λ (r : Answer). WritesLines (contents c.args.out.now) (contents c.close-closed.new.out) r
    (report net c.args.summary.now))
    (sym c.and.ensures)
    (report_closed c.in_ok-page.page c.put_report-made.new.desk.page rows c.in_ok-page.ensures.ok
    c.put_report-made.ensures c.close-closed.ensures) in
    search rules

pub returns-in_err-page-clause-text : goal.returns-in_err-page-clause-text
returns-in_err-page-clause-text g c =
    let net = seen c.args.net.now in
    let summary = c.args.summary.now in
    none_begun Header (Options summary.turns summary.workers summary.drain ∷ []
    ++ stops_rows summary.stops ++ flits_rows net ++ closing_rows net summary) c.from_residual.ensures.0
