use Rattle.std.proofs.Common.{[]}
use Rattle.worm_picture.specs.Picture.{Adds}
use Rattle.worm_picture.proofs.counts.add_deliveries.Given as goal

abbrev pub invariant-loop-row : goal.invariant-loop-row
invariant-loop-row l = Adds l.fn.svg l.svg []
