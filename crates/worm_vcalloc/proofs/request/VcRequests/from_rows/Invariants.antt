use Rattle.std.proofs.Common.{◌≡◌, ℕ, ◌*◌, ◌<◌, [], None, length, slice_index_or}
use Rattle.worm_vcalloc.proofs.RowsCopied.{IsCopied}
use Rattle.worm_vcalloc.proofs.request.VcRequests.from_rows.Given as goal

-- the rows that were read are as long as rows are
abbrev pub invariant-loop-place : goal.invariant-loop-place
invariant-loop-place l =
    IsCopied None l.rows l.requests l.place
    × ((p : ℕ) → 8 * p < l.place → length (slice_index_or l.rows p []) ≡ 8)
