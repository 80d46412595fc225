use Rattle.std.proofs.Common.{◌≡◌, ◌<◌, ℕ, length, slice_index}
use Rattle.worm_flit.specs.Channels.{first_channel}
use Rattle.worm_term.proofs.source.first_channels.Given as goal

abbrev pub invariant-loop-class : goal.invariant-loop-class
invariant-loop-class l = record {
  all : length l.firsts ≡ 4;
  firsts : (k : ℕ) → k < l.class → slice_index l.firsts k ≡ first_channel l.classes k;
}
