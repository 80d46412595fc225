use Rattle.std.proofs.Common.{◌≡◌, take}
use Rattle.worm_waits.specs.Waits.{last_taken}
use Rattle.worm_waits.proofs.waits.last_taken.Given as goal

abbrev pub invariant-loop-row : goal.invariant-loop-row
invariant-loop-row l = l.last ≡ last_taken l.node l.class (take l.row-index l.rows)
