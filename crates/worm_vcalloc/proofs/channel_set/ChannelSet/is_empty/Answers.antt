use Rattle.std.proofs.Common.{rules}
use Rattle.worm_vcalloc.proofs.channel_set.ChannelSet.is_empty.Goals as goal

pub returns : goal.returns
returns c = search rules
