use Rattle.std.proofs.Common.{eqb, take, drop, w8, arith}
use Rattle.std.proofs.lemmas.Simd.{bitmask_splat, length-chunk}
use Rattle.worm_text.proofs.FoundInRuns.{first_marked}
use Rattle.worm_text.proofs.fields.place_within.Goals as goal

pub returns : goal.returns
returns c =
    let run = take 16 (drop c.args.at c.args.bytes.now) in
    let long = length-chunk c.args.at 16 c.args.bytes.now c.requires in
    first_marked (λ b. eqb b c.args.end) run _ (omega (arith, long))
    (bitmask_splat w8 eqb run 16 c.args.end long (omega arith)) (omega (arith, c.if-marks-eq0.false))
