use Rattle.worm_region.proofs.EachCovered.{Covered}
use Rattle.worm_region.proofs.ClassesCovered.{classes}
use Rattle.worm_region.proofs.region.Region.feed_classes.Given as goal

abbrev pub invariant-loop-class : goal.invariant-loop-class
invariant-loop-class l = Covered (classes l.node) l.initial.self l.self l.left

abbrev pub decreases-loop-class : goal.decreases-loop-class
decreases-loop-class l = l.left
