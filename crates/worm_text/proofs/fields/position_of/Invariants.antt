use Rattle.std.proofs.Common.{◌-◌, eqb, length}
use Rattle.worm_text.proofs.FoundInRuns.{IsSoughtFrom}
use Rattle.worm_text.proofs.fields.position_of.Given as goal

abbrev pub invariant-loop-at : goal.invariant-loop-at
invariant-loop-at l = IsSoughtFrom (λ b. eqb b l.end) l.bytes l.at

abbrev pub decreases-loop-at : goal.decreases-loop-at
decreases-loop-at l = length l.bytes - l.at
