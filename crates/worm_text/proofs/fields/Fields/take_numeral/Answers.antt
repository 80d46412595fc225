use Rattle.std.proofs.Common.{◌≡◌, ◌∷◌, refl, sym, arith}
use Rattle.std.proofs.lemmas.Bool.Decides.{nat_tests}
use Rattle.worm_text.specs.Numerals.{leading_digits}
use Rattle.worm_text.proofs.NextField.{cut-end, cut-space, is_numeral-other, is_numeral-leading}
use Rattle.worm_text.proofs.fields.Fields.take_numeral.Goals.{in-empty, in-32}
use Rattle.worm_text.proofs.fields.Fields.take_numeral.Goals as goal

pub returns-in_default-clause-answer : goal.returns-in_default-clause-answer
returns-in_default-clause-answer c = rw c.requires.rest
    (sym (is_numeral-other c.args.rest.now c.args.count c.requires.count c.in_default.len_at_least (omega arith)))

pub returns-then-count-gt1 : goal.returns-then-count-gt1
returns-then-count-gt1 c =
    let bytes = c.args.rest.now in
    let n = c.args.count in
    let is = c.requires.count in
    let cut : c.args.self.now ≡ leading_digits bytes ∷ c.if-rest-count-lt1.self = elim c.if-rest-count-lt1.branch [
      | in-empty w ↦ rw (c.requires.rest, w.self-is) (cut-end bytes n is w.in-empty.len_below)
      | in-32 w ↦ rw (c.requires.rest, w.self-is) (cut-space bytes n is w.in-32.len_at_least (omega arith))
    ] in
    let numeral = is_numeral-leading bytes n is in
    record { answer = rw (cut, numeral) (grind (arith, nat_tests)); one = rw cut refl }
