use Rattle.worm_vcalloc.proofs.KeyedTables.{has-keyed}
use Rattle.worm_vcalloc.proofs.channel_map.ChannelMap.keys.Goals as goal

pub returns : goal.returns
returns c = λ p k lp lk. rw (← c.self.view_is) (has-keyed 0 c.self.inside.keys c.self.inside.numbers p k lp lk)
