use Rattle.worm_vcalloc.proofs.RequestsFiled.{AreFiledBut}
use Rattle.worm_vcalloc.proofs.asked.Asked.file.Given as goal

abbrev pub invariant-loop-port : goal.invariant-loop-port
invariant-loop-port l = AreFiledBut l.waiting l.ports l.vcs l.left l.self

abbrev pub decreases-loop-port : goal.decreases-loop-port
decreases-loop-port l = l.left
