use Rattle.worm_vcalloc.proofs.KeyedTables.{cell-keyed}
use Rattle.worm_vcalloc.proofs.channel_map.ChannelMap.number.Goals as goal

pub returns : goal.returns
returns c = rw (← c.self.view_is) (cell-keyed 0 c.self.inside.keys c.self.inside.numbers c.args.port c.args.channel
    c.requires.port c.requires.channel (rw (← c.self.view_is) at c.requires.within))
