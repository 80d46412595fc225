use Rattle.std.proofs.Common.{◌≡◌, ℕ, ◌+◌, ◌*◌, ◌<◌, get_or, length}
use Rattle.worm_mesh.specs.Address.{stride_of}
use Rattle.worm_wires.proofs.wiring.steps.Given as goal

abbrev pub invariant-loop-dim : goal.invariant-loop-dim
invariant-loop-dim l = record {
  all : length l.steps ≡ 6;
  kept : (d : ℕ) → d < l.dim → (get_or l.steps (2 * d) 0 + stride_of l.mesh d ≡ 256)
      × (get_or l.steps (2 * d + 1) 0 ≡ stride_of l.mesh d);
}
