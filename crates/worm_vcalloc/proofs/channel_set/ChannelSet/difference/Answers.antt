use Rattle.std.proofs.Common.{arith}
use Rattle.worm_vcalloc.proofs.SetMembers.{has_first_alone}
use Rattle.worm_vcalloc.proofs.channel_set.ChannelSet.difference.Goals as goal

pub returns : goal.returns
returns c = λ p k lp lk. rw (
  ← c.self.view_is,
  ← c.other.view_is,
) (has_first_alone c.self.inside.bits c.other.inside.bits p k (let fits = c.other.invariant in
    omega arith) lp lk)
