use Rattle.std.proofs.Common.{◌≡◌, take, flat_map}
use Rattle.worm_waits.specs.Waits.{told, waits_in}
use Rattle.worm_waits.proofs.scene.Scene.waits_of.Given as goal

abbrev pub invariant-loop-view : goal.invariant-loop-view
invariant-loop-view l = l.waits.items ≡ flat_map (waits_in (told l.self)) (take l.view-index l.views)
