use Rattle.std.specs.Prelude.{vec_capacity}
use Rattle.worm_split.proofs.DealtSoFar.{DealSoFar}
use Rattle.worm_split.proofs.splitting.deal.Given as goal

abbrev pub invariant-loop-worker : goal.invariant-loop-worker
invariant-loop-worker l = DealSoFar l.opening.value l.workers l.pairs.value.items l.worker l.whole l.seats.items
    l.parts.items (vec_capacity l.parts)
