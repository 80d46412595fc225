use Rattle.worm_swalloc.proofs.SwitchPass.{AskedBelow}
use Rattle.worm_swalloc.proofs.sw_alloc.SwAlloc.gather.Given as goal

abbrev pub invariant-loop-port : goal.invariant-loop-port
invariant-loop-port l = AskedBelow l.self l.ready l.initial.left l.left l.asked

abbrev pub decreases-loop-port : goal.decreases-loop-port
decreases-loop-port l = l.left
