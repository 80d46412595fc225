use Rattle.std.proofs.Common.{ℕ, ◌≡◌, ◌<◌, length, slice_index}
use Rattle.worm_flit.specs.Channels.{class_bits}
use Rattle.worm_router.proofs.router.fresh.class_masks.Given as goal

abbrev pub invariant-loop-class : goal.invariant-loop-class
invariant-loop-class l = record {
  all : length l.masks ≡ 4;
  masks : (k : ℕ) → k < l.class → slice_index l.masks k ≡ class_bits l.classes k;
}
