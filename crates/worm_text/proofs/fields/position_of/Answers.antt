use Rattle.std.proofs.Common.{eqb, sym, ◌∙◌, arith}
use Rattle.worm_text.proofs.FoundInRuns.{sought_on}
use Rattle.worm_text.proofs.fields.position_of.Goals as goal

pub loop-at-preserved : goal.loop-at-preserved
loop-at-preserved c =
    sought_on (λ b. eqb b c.args.end) c.args.bytes.now c.loop-at.at 16 c.loop-at.invariant (omega arith)
    (sym c.place_within.ensures ∙ c.in_default.is)
