use Rattle.std.proofs.Common.{replicate}
use Rattle.worm_vcalloc.proofs.KeyedTables.{keyed_none}
use Rattle.worm_vcalloc.proofs.channel_map.ChannelMap.new.Goals as goal

pub returns : goal.returns
returns c = keyed_none 0 c.new.result (replicate 7 (replicate 8 0)) c.new.ensures
