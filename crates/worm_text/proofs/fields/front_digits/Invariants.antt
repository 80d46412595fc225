use Rattle.std.proofs.Common.{◌-◌, length}
use Rattle.worm_text.proofs.Values.{AreRead}
use Rattle.worm_text.proofs.fields.front_digits.Given as goal

abbrev pub invariant-loop-count : goal.invariant-loop-count
invariant-loop-count l = AreRead l.bytes l.count l.value

abbrev pub decreases-loop-count : goal.decreases-loop-count
decreases-loop-count l = length l.bytes - l.count
