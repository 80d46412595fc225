use Rattle.std.proofs.Common.{◌≡◌, inl, inr, refl, sym, arith, rules}
use Rattle.worm_text.specs.Lines.{cut, space}
use Rattle.worm_text.specs.Numerals.{leading_digits, value_of}
use Rattle.worm_text.proofs.FieldLaws.{long_numeral}
use Rattle.worm_text.proofs.NextField.{number_at-cut, numeral-leading, value_between, value_outside}
use Rattle.worm_text.proofs.fields.Fields.number.Goals as goal
use Rattle.worm_text.proofs.fields.Fields.number.Goals.{then-front-gt10-via-then-front-gt10}
use Rattle.worm_text.proofs.fields.Fields.number.Goals.{then-front-gt10-via-else-front-gt10+then-front-from}
use Rattle.worm_text.proofs.fields.Fields.number.Goals.{then-front-gt10-via-else-front-gt10+else-front-from+then-front-from-2}

pub returns-then-front-gt10-clause-answer : goal.returns-then-front-gt10-clause-answer
returns-then-front-gt10-clause-answer c =
    let bytes = c.in-Some.rest.now in
    let are : c.args.self.now ≡ cut space bytes = search rules in
    let numeral = c.if-not-take_numeral.ensures.answer in
    let read = number_at-cut c.args.low c.args.high bytes c.args.self.now c.take_numeral.new.self are
    c.take_numeral.ensures.one numeral in
    let value = c.front_digits-front.ensures.value in
    let out = value_outside c.args.low c.args.high (value_of (leading_digits bytes)) (elim c.then-front-gt10.branch [
      | then-front-gt10-via-then-front-gt10 w ↦
          let long = long_numeral (leading_digits bytes) (numeral-leading bytes c.args.self.now are numeral)
          (omega (arith, c.front_digits-front.ensures.count)) in
          inr (omega (arith, long))
      | then-front-gt10-via-else-front-gt10+then-front-from w ↦ inl (omega (arith, value (omega arith)))
      | then-front-gt10-via-else-front-gt10+else-front-from+then-front-from-2 w ↦
          inr (omega (arith, value (omega arith)))
    ]) in
    rw (read, out) refl

pub returns-clause-answer : goal.returns-clause-answer
returns-clause-answer c =
    let bytes = c.in-Some.rest.now in
    let are : c.args.self.now ≡ cut space bytes = search rules in
    let read = number_at-cut c.args.low c.args.high bytes c.args.self.now c.take_numeral.new.self are
    c.take_numeral.ensures.one c.if-not-take_numeral.ensures.answer in
    let is : c.front_digits-front.result.value ≡ value_of (leading_digits bytes) =
    c.front_digits-front.ensures.value (omega arith) in
    let between = value_between c.args.low c.args.high c.front_digits-front.result.value (omega arith) (omega arith) in
    rw (read, sym is, between) refl
