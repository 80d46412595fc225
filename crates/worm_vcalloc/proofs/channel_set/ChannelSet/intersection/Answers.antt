use Rattle.worm_vcalloc.proofs.SetMembers.{has_both}
use Rattle.worm_vcalloc.proofs.channel_set.ChannelSet.intersection.Goals as goal

pub returns : goal.returns
returns c = λ p k. rw (← c.self.view_is, ← c.other.view_is) (has_both c.self.inside.bits c.other.inside.bits p k)
