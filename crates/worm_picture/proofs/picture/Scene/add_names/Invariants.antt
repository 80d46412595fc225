use Rattle.std.proofs.Common.{[]}
use Rattle.worm_picture.specs.Picture.{Adds}
use Rattle.worm_picture.proofs.picture.Scene.add_names.Given as goal

abbrev pub invariant-loop-slice : goal.invariant-loop-slice
invariant-loop-slice l = Adds l.fn.svg l.svg []
