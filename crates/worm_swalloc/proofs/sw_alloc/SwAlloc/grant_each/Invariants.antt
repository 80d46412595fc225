use Rattle.worm_swalloc.proofs.ApartAreGranted.{EachBelow}
use Rattle.std.proofs.Common.{length, ◌≡◌}
use Rattle.worm_swalloc.proofs.sw_alloc.SwAlloc.grant_each.Given as goal

abbrev pub invariant-loop-port : goal.invariant-loop-port
invariant-loop-port l = EachBelow l.initial.self l.ready l.among l.left l.requests l.self × (length l.requests ≡ 7)

abbrev pub decreases-loop-port : goal.decreases-loop-port
decreases-loop-port l = l.left
