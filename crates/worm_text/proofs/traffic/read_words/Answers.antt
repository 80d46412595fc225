use Rattle.std.proofs.Common.{◌≡◌, ◌≤◌, ◌<◌, ◌∙◌, length, sym, ap, arith, ltb, refl, true, false}
use Rattle.std.proofs.lemmas.Bool.Decides.{nat_tests}
use Rattle.std.proofs.lemmas.Result.{err_from_is_err_and}
use Rattle.worm_text.specs.Traffic.{words_at}
use Rattle.worm_text.proofs.Words.{some_left, none_left, words_full, words_more, words_bad, words_over}
use Rattle.worm_text.proofs.traffic.read_words.Goals as goal

pub returns-then-is_full-clause-read : goal.returns-then-is_full-clause-read
returns-then-is_full-clause-read c =
    let some = some_left c.is_over.result c.loop-words.fields c.is_over.ensures c.loop-words-test.true in
    let full : 32 ≤ length c.loop-words.words.items =
    grind (arith, nat_tests, c.is_full.ensures.value, c.if-is_full.true) in
    sym c.loop-words.invariant ∙ words_full c.loop-words.words.items c.loop-words.fields some full

pub returns-in_err-number-clause-read : goal.returns-in_err-number-clause-read
returns-in_err-number-clause-read c =
    let p = err_from_is_err_and c.from_residual.result c.from_residual.ensures.1 in
    let some = some_left c.is_over.result c.loop-words.fields c.is_over.ensures c.loop-words-test.true in
    let room : length c.loop-words.words.items < 32 =
    grind (arith, nat_tests, c.is_full.ensures.value, c.is_full.ensures.fits, c.if-is_full.false) in
    rw (p.1, p.2) (sym c.loop-words.invariant
    ∙ words_bad c.loop-words.words.items c.loop-words.fields c.in_err-number.field-0.0 some room
    c.in_err-number.ensures.answer)

pub loop-words-preserved : goal.loop-words-preserved
loop-words-preserved c =
    let room : length c.loop-words.words.items < 32 =
    grind (arith, nat_tests, c.is_full.ensures.value, c.is_full.ensures.fits, c.if-is_full.false) in
    let m = words_more c.loop-words.words.items c.loop-words.fields c.number.new.self c.in_ok-number.field-0 room
    c.in_ok-number.ensures.answer in
    ap (λ ws. words_at ws c.number.new.self) c.push.ensures.items ∙ sym m.0 ∙ c.loop-words.invariant

pub returns-then-is_empty-clause-read : goal.returns-then-is_empty-clause-read
returns-then-is_empty-clause-read c =
    let none = none_left c.is_over.result c.loop-words.fields c.is_over.ensures c.loop-words-test.false in
    let empty : ltb 0 (length c.loop-words.words.items) ≡ false =
    grind (arith, nat_tests, c.is_empty.ensures, c.if-is_empty.true) in
    sym c.loop-words.invariant ∙ words_over c.loop-words.words.items c.loop-words.fields none ∙ rw empty refl

pub returns-clause-read : goal.returns-clause-read
returns-clause-read c =
    let none = none_left c.is_over.result c.loop-words.fields c.is_over.ensures c.loop-words-test.false in
    let some : ltb 0 (length c.loop-words.words.items) ≡ true =
    grind (arith, nat_tests, c.is_empty.ensures, c.if-is_empty.false) in
    sym c.loop-words.invariant ∙ words_over c.loop-words.words.items c.loop-words.fields none ∙ rw some refl
