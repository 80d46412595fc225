use Rattle.std.proofs.Common.{◌≡◌, ◌+◌, ◌-◌, ◌<◌, ◌%◌, None}
use Rattle.std.specs.Prelude.{filter}
use Rattle.std.specs.List.{range_with_len}
use Rattle.worm_mesh.specs.Address.{node_count}
use Rattle.worm_region.specs.Workable.{owned}
use Rattle.worm_region.specs.Turns.{Each}
use Rattle.worm_split.specs.PartState.{IsSamePart}
use Rattle.worm_split.specs.PartTurns.{NodeTurn}
use Rattle.worm_split.proofs.part.Part.node_turns.Given as goal

abbrev pub invariant-loop-node : goal.invariant-loop-node
invariant-loop-node g l = record {
  turned : Each (NodeTurn l.entries) (filter (owned l.fn.self.net) (range_with_len 0 l.node)) l.fn.self None l.self;
  same : IsSamePart l.fn.self l.self;
  mine : l.node % l.fn.self.net.own.workers ≡ l.fn.self.net.own.worker;
  near : l.node < node_count l.fn.self.net.mesh + l.fn.self.net.own.workers;
}

abbrev pub decreases-loop-node : goal.decreases-loop-node
decreases-loop-node g l = node_count l.fn.self.net.mesh - l.node
