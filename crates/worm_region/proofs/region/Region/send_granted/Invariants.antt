use Rattle.std.proofs.Common.{◌*◌, ◌+◌, List, Option, length}
use Rattle.worm_swalloc.specs.declared.grant.SwGrant.{SwGrant}
use Rattle.worm_swalloc.specs.SwAlloc.{AreGranted}
use Rattle.worm_region.proofs.GrantedSent.{Sent, SentBelow}
use Rattle.worm_region.proofs.region.Region.send_granted.Given as goal

abbrev pub invariant-loop-port : goal.invariant-loop-port
invariant-loop-port l =
    (grants : List (Option SwGrant)) → AreGranted grants l.initial.left →
    Sent (SentBelow l.node grants l.initial.self l.self) l.initial.left l.left (2 * length l.initial.self.mesh + 1)

abbrev pub decreases-loop-port : goal.decreases-loop-port
decreases-loop-port l = l.left
