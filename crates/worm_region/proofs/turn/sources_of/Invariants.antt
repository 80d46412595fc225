use Rattle.std.proofs.Common.{ℕ, ◌≡◌, ◌<◌, true, false, [], take}
use Rattle.std.specs.Prelude.{slice_index_or}
use Rattle.worm_script.specs.Script.{begun_at}
use Rattle.worm_region.proofs.turn.sources_of.Given as goal

-- of the entries before, none is for a node that is not marked
abbrev pub invariant-loop-i : goal.invariant-loop-i
invariant-loop-i l =
    (x : ℕ) → x < 256 → slice_index_or l.sources x true ≡ false → begun_at x (take l.i l.entries) ≡ []
