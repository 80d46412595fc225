use Rattle.worm_split.proofs.CreditsGiven.{Gave}
use Rattle.worm_split.proofs.part.Part.give_credits.Given as goal

abbrev pub invariant-loop-port : goal.invariant-loop-port
invariant-loop-port g l = Gave l.node l.initial.self l.self l.left

abbrev pub decreases-loop-port : goal.decreases-loop-port
decreases-loop-port g l = l.left
