use Rattle.std.proofs.Common.{◌≡◌, ◌++◌, List, ℕ, length}
use Rattle.std.specs.Io.KnownBytes.{Appends}
use Rattle.worm_report.proofs.writing.put.Given as goal

abbrev pub decreases-loop-rest : goal.decreases-loop-rest
decreases-loop-rest g l = length l.rest

abbrev pub invariant-loop-rest : goal.invariant-loop-rest
invariant-loop-rest g l = (front : List ℕ) × (l.bytes ≡ front ++ l.rest)
    × Appends (g.W.Write.contents l.fn.out) (g.W.Write.contents l.out) front
