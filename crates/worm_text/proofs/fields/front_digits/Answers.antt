use Rattle.std.proofs.Common.{◌+◌, ◌*◌, ◌%◌, ◌^◌, ap, arith}
use Rattle.std.proofs.lemmas.Bool.Decides.{nat_tests}
use Rattle.worm_text.proofs.Values.{all_read, read_more}
use Rattle.worm_text.proofs.fields.front_digits.Goals as goal

pub loop-count-preserved : goal.loop-count-preserved
loop-count-preserved c =
    read_more c.args.bytes.now c.loop-count.count c.loop-count.value _ c.loop-count.invariant c.loop-count-test.true
    (grind (arith, nat_tests))
    (ap (λ d. ((c.loop-count.value * 10) % 2 ^ 64 + d) % 2 ^ 64) c.from-digit.ensures)

pub returns-else-bytes-count-le57 : goal.returns-else-bytes-count-le57
returns-else-bytes-count-le57 c =
    let r = all_read c.args.bytes.now c.loop-count.count c.loop-count.value c.loop-count.invariant
    (λ _. grind (arith, nat_tests)) in
    record { count = r.0; value = r.1 }

pub returns-else-bytes-count-ge48 : goal.returns-else-bytes-count-ge48
returns-else-bytes-count-ge48 c =
    let r = all_read c.args.bytes.now c.loop-count.count c.loop-count.value c.loop-count.invariant
    (λ _. grind (arith, nat_tests)) in
    record { count = r.0; value = r.1 }

pub returns-after-loop-count : goal.returns-after-loop-count
returns-after-loop-count c =
    let r = all_read c.args.bytes.now c.loop-count.count c.loop-count.value c.loop-count.invariant
    (λ lt. absurd (omega arith)) in
    record { count = r.0; value = r.1 }
