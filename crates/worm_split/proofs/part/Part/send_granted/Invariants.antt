use Rattle.std.proofs.Common.{◌*◌, ◌+◌, List, Option, length}
use Rattle.worm_swalloc.specs.declared.grant.SwGrant.{SwGrant}
use Rattle.worm_swalloc.specs.SwAlloc.{AreGranted}
use Rattle.worm_region.proofs.GrantedSent.{Sent}
use Rattle.worm_split.proofs.GrantsSent.{SentBelow}
use Rattle.worm_split.proofs.part.Part.send_granted.Given as goal

abbrev pub invariant-loop-port : goal.invariant-loop-port
invariant-loop-port g l =
    (grants : List (Option SwGrant)) → AreGranted grants l.initial.left
    → Sent (SentBelow l.node grants l.initial.self l.self) l.initial.left l.left
    (2 * length l.initial.self.net.mesh + 1)

abbrev pub decreases-loop-port : goal.decreases-loop-port
decreases-loop-port g l = l.left
