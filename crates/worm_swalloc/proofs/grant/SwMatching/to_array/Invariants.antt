use Rattle.std.proofs.Common.{◌≡◌, ℕ, ◌<◌, None, length, slice_index_or}
use Rattle.worm_swalloc.proofs.grant.SwMatching.to_array.Given as goal

abbrev pub invariant-loop-port : goal.invariant-loop-port
invariant-loop-port l =
    (length l.grants ≡ 7) × ((p : ℕ) → p < l.port → slice_index_or l.grants p None ≡ slice_index_or l.self p None)
