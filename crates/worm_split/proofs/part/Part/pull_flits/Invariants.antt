use Rattle.worm_split.specs.PartTurns.{PullsFlit}
use Rattle.worm_split.proofs.PortsAsked.{Asked}
use Rattle.worm_split.proofs.part.Part.pull_flits.Given as goal

abbrev pub invariant-loop-port : goal.invariant-loop-port
invariant-loop-port l = Asked (PullsFlit l.node) l.initial.self l.self l.left

abbrev pub decreases-loop-port : goal.decreases-loop-port
decreases-loop-port l = l.left
