use Rattle.std.proofs.Common.{◌≡◌, take}
use Rattle.worm_region.proofs.fabric.configuration.radices_of.Given as goal

abbrev pub invariant-loop-d : goal.invariant-loop-d
invariant-loop-d l = l.radices.items ≡ take l.d l.mesh
