use Rattle.std.proofs.Common.{ℕ, ◌<◌, drop}
use Rattle.worm_term.specs.Source.{queue_at}
use Rattle.worm_core.specs.LaneSet.{AllMarked, KeepsMarks}
use Rattle.worm_core.proofs.busy.LaneSet.mark_source.Given as goal

abbrev pub invariant-loop-class : goal.invariant-loop-class
invariant-loop-class l =
    record {
      kept : KeepsMarks l.initial.self l.self;
      marked : (k : ℕ) → k < l.class
          → AllMarked l.self (drop (queue_at l.source k).fed (queue_at l.source k).injected);
    }
