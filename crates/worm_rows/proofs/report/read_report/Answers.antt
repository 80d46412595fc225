use Rattle.std.proofs.Common.{ap, map, subst, ◌∙◌}
use Rattle.worm_rows.specs.Report.{AnswersOrFull, RanOut, report_of}
use Rattle.worm_rows.specs.Written.{row_of}
use Rattle.worm_rows.proofs.Same.{same_text}
use Rattle.worm_rows.proofs.Readings.{found, faulty, reads_report}
use Rattle.worm_rows.proofs.report.read_report.Goals as goal

pub returns : goal.returns
returns c = record {
  found = found c.args.shape.now c.args.bytes.now (λ v. v.items) c.read_rows.result c.read_rows.ensures;
  only = λ rows keeps e.
      subst (λ answer. AnswersOrFull (λ v. v.items) (RanOut c.args.shape.now c.args.bytes.now) c.read_rows.result
      answer)
      (ap (report_of c.args.shape.now) e ∙ reads_report c.args.shape.now rows keeps) c.read_rows.ensures;
  written = λ rows summed keeps e.
      subst (λ answer. AnswersOrFull (λ v. v.items) (RanOut c.args.shape.now c.args.bytes.now) c.read_rows.result
      answer)
      (ap (report_of c.args.shape.now) (e ∙ same_text rows summed)
      ∙ reads_report c.args.shape.now (map row_of rows) keeps) c.read_rows.ensures;
  line = faulty c.args.shape.now c.args.bytes.now (λ v. v.items) c.read_rows.result c.read_rows.ensures;
  exact = c.read_rows.ensures;
}
