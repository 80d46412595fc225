use Rattle.std.proofs.Common.{[]}
use Rattle.worm_picture.specs.Picture.{Adds}
use Rattle.worm_picture.proofs.picture.Scene.add_traces.Given as goal

abbrev pub invariant-loop-station : goal.invariant-loop-station
invariant-loop-station l = Adds l.fn.svg l.svg []
