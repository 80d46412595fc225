use Rattle.worm_vcalloc.proofs.ChannelsAllowed.{AreAllowedBut}
use Rattle.worm_vcalloc.proofs.asked.file_allowed.Given as goal

abbrev pub invariant-loop-channel : goal.invariant-loop-channel
invariant-loop-channel l = AreAllowedBut l.initial.by_channel l.by_channel l.port l.vc l.fn.allowed l.left

abbrev pub decreases-loop-channel : goal.decreases-loop-channel
decreases-loop-channel l = l.left
