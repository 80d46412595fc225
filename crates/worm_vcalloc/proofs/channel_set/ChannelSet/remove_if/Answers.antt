use Rattle.worm_vcalloc.proofs.SetMembers.{taken_by}
use Rattle.worm_vcalloc.proofs.channel_set.ChannelSet.remove_if.Goals as goal

pub invariant_of-self : goal.invariant_of-self
invariant_of-self c = (taken_by _ _ _ _ _ c.from.ensures c.self.invariant c.requires.port c.requires.channel).small

pub returns : goal.returns
returns c =
    rw (← c.self.view_is)
    (taken_by _ _ _ _ _ c.from.ensures c.self.invariant c.requires.port c.requires.channel)
