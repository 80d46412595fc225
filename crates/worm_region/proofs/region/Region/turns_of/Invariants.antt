use Rattle.std.proofs.Common.{None}
use Rattle.std.specs.List.{range_with_len}
use Rattle.worm_region.specs.Replies.{Attempts}
use Rattle.worm_region.specs.Turns.{Does, Each, NodeTurnBy}
use Rattle.worm_region.proofs.region.Region.turns_of.Given as goal

abbrev pub invariant-loop-node : goal.invariant-loop-node
invariant-loop-node l =
    Does (Each (NodeTurnBy Attempts l.entries) (range_with_len 0 l.node)) l.initial.self None l.self
