use Rattle.std.proofs.Common.{◌≡◌, true, false, sym, ◌∙◌, inl, inr, rules}
use Rattle.std.proofs.lemmas.List.{length-map}
use Rattle.worm_text.specs.declared.fault.Why.TheVariants.{NoMemory}
use Rattle.worm_text.specs.Network.{view}
use Rattle.worm_rows.proofs.NoWant.{no_want}
use Rattle.worm_view.proofs.program.accept.Goals as goal

-- where memory ran out over the report
pub returns-in-Err-read_report-clause-err : goal.returns-in-Err-read_report-clause-err
returns-in-Err-read_report-clause-err c =
    let shape = c.of-shape.ensures in
    let classes = shape.classes ∙ sym (length-map c.in-Ok.config.classes.items _) in
    let found = c.in-Ok.ensures.found in
    let fault = c.in-Err-read_report.fault in
    let want : fault.why ≡ NoMemory = search rules in
    elim c.in-Err-read_report.ensures.exact [
      | inl full ↦ record {
        said = view c.in-Ok.config;
        format = found.0;
        keeps = found.1;
        spelled = found.2;
        shape = c.of-shape.result;
        is_shape = record { mesh = shape.mesh; classes = classes; vcs = shape.vcs };
        line = fault.line;
        some = full.some;
        so_far = full.line;
      }
      | inr is ↦ absurd (no_want c.of-shape.result c.args.report.now fault is want)
    ]

pub returns-in-Err-2-clause-err : goal.returns-in-Err-2-clause-err
returns-in-Err-2-clause-err c =
    let shape = c.of-shape.ensures in
    let classes = shape.classes ∙ sym (length-map c.in-Ok.config.classes.items _) in
    elim c.in-Err-read_report.ensures.exact [
      | inl full ↦ let same = rw full.why at c.eq.ensures in
          absurd (let no : true ≡ false = sym same ∙ c.if-eq.false in cc)
      | inr e ↦ (
        view c.in-Ok.config,
        c.of-shape.result,
        c.in-Ok.ensures.exact,
        record { mesh = shape.mesh; classes = classes; vcs = shape.vcs },
        e,
      )
    ]
