use Rattle.std.proofs.Common.{◌≡◌, take}
use Rattle.worm_region.proofs.fabric.configuration.counts_of.Given as goal

abbrev pub invariant-loop-class : goal.invariant-loop-class
invariant-loop-class l = l.counts.items ≡ take l.class l.classes
