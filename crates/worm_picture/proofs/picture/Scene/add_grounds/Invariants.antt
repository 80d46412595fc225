use Rattle.std.proofs.Common.{[]}
use Rattle.worm_picture.specs.Picture.{Adds}
use Rattle.worm_picture.proofs.picture.Scene.add_grounds.Given as goal

abbrev pub invariant-loop-view : goal.invariant-loop-view
invariant-loop-view l = Adds l.fn.svg l.svg []
