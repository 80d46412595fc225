use Rattle.std.proofs.Common.{length}
use Rattle.worm_rows.proofs.Loop.{SoFar}
use Rattle.worm_rows.proofs.report.read_rows.Given as goal

abbrev pub decreases-loop-front : goal.decreases-loop-front
decreases-loop-front l = length l.rest

abbrev pub invariant-loop-front : goal.invariant-loop-front
invariant-loop-front l = SoFar l.shape l.standing l.rows.items l.line l.rest l.bytes
