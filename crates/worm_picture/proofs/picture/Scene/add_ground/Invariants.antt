use Rattle.std.proofs.Common.{[]}
use Rattle.worm_picture.specs.Picture.{Adds}
use Rattle.worm_picture.proofs.picture.Scene.add_ground.Given as goal

abbrev pub invariant-loop-port : goal.invariant-loop-port
invariant-loop-port l = Adds l.fn.svg l.svg []
