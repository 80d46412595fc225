use Rattle.std.proofs.Common.{◌≡◌, ◌<◌, ℕ, Some, length}
use Rattle.std.specs.Prelude.{slice_get}
use Rattle.worm_flit.specs.Channels.{owner_of}
use Rattle.worm_split.proofs.memory.owners_of.Given as goal

abbrev pub invariant-loop-channel : goal.invariant-loop-channel
invariant-loop-channel l = record {
  count : length l.owners ≡ 8;
  each : (v : ℕ) → v < l.channel → slice_get l.owners v ≡ Some (owner_of l.classes v);
}
