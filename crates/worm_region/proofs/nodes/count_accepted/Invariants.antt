use Rattle.std.proofs.Common.{◌≡◌, length, take}
use Rattle.std.specs.List.{sum_by}
use Rattle.worm_term.specs.Queue.{QueueState}
use Rattle.worm_region.proofs.nodes.count_accepted.Given as goal

abbrev pub invariant-loop-class : goal.invariant-loop-class
invariant-loop-class l =
    l.accepted ≡ sum_by (λ (q : QueueState). length q.injected) (take l.class l.node.source.queues)
