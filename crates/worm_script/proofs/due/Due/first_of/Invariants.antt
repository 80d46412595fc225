use Rattle.std.proofs.Common.{ℕ, ◌≢◌, ◌<◌}
use Rattle.std.specs.Prelude.{slice_index}
use Rattle.worm_script.specs.Script.{sources_of}
use Rattle.worm_script.proofs.due.Due.first_of.Given as goal

-- none of those before is the node's
abbrev pub invariant-loop-i : goal.invariant-loop-i
invariant-loop-i l = (k : ℕ) → k < l.i → slice_index (sources_of l.self) k ≢ l.node
