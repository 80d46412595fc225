use Rattle.worm_vcalloc.proofs.SetMembers.{put_by}
use Rattle.worm_vcalloc.proofs.channel_set.ChannelSet.insert_if.Goals as goal

pub invariant_of-self : goal.invariant_of-self
invariant_of-self c = (put_by _ _ _ _ _ c.from.ensures c.self.invariant c.requires.port c.requires.channel).small

pub returns : goal.returns
returns c =
    rw (← c.self.view_is)
    (put_by _ _ _ _ _ c.from.ensures c.self.invariant c.requires.port c.requires.channel)
