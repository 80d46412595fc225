-- What the parser's definition finds in the words is what the program ends with.
use Rattle.std.proofs.Common.{◌≡◌, ◌∙◌, Option, Some, None, sym}
use Rattle.clap.specs.Faults.{fault_of}
use Rattle.clap.specs.Simple.{matches_of}
use Rattle.clap.specs.Walk.{texts}
use Rattle.worm_view.specs.Commands.{command}
use Rattle.worm_view.specs.declared.form.Form.{Form}
use Rattle.worm_view.proofs.Statuses.{of_both, of_refused}
use Rattle.worm_view.proofs.run_words.Goals as goal

one_form : (form : Form) → ◌≡◌ {A = Option Form} (Some form) None → ⊥
one_form form e = absurd (cc)

pub returns-in-Ok-clause-refused : goal.returns-in-Ok-clause-refused
returns-in-Ok-clause-refused g c = λ some. absurd (some c.in-Ok.ensures.faultless)

pub returns-in-Ok-clause-both : goal.returns-in-Ok-clause-both
returns-in-Ok-clause-both g c = λ none asks.
    absurd (one_form c.in-Ok.words.form (sym c.in-Ok.ensures.said.form ∙ asks))

pub returns-in-Err-clause-refused : goal.returns-in-Err-clause-refused
returns-in-Err-clause-refused g c = λ some.
    let words = texts c.args.words.now in
    of_refused _ (fault_of command words) (matches_of command words) c.in-Err.fault c.refuse.ensures
    c.in-Err.ensures.refused c.in-Err.ensures.err some

pub returns-in-Err-clause-both : goal.returns-in-Err-clause-both
returns-in-Err-clause-both g c = λ none asks.
    let words = texts c.args.words.now in
    of_both _ (fault_of command words) (matches_of command words) c.in-Err.fault c.refuse.ensures
    c.in-Err.ensures.refused none
