use Rattle.worm_region.proofs.TurnInParts.{Asked, how_many_left}
use Rattle.worm_region.proofs.region.Region.ask_source.Given as goal

abbrev pub invariant-loop-next : goal.invariant-loop-next
invariant-loop-next l = Asked l.node l.entries l.next l.initial.self l.self

abbrev pub decreases-loop-next : goal.decreases-loop-next
decreases-loop-next l = how_many_left l.node l.entries l.next
