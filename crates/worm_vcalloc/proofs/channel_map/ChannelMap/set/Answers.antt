use Rattle.std.proofs.Common.{arith, ◌<◌, [], length, slice_index_or}
use Rattle.worm_vcalloc.proofs.KeyedTables.{keyed_put, keyed_taken}
use Rattle.worm_vcalloc.proofs.channel_map.ChannelMap.set.Goals as goal

pub returns-in-Some : goal.returns-in-Some
returns-in-Some c =
    let high : c.args.port < length c.self.inside.numbers = omega arith in
    let wide : c.args.channel < length (slice_index_or c.self.inside.numbers c.args.port []) = omega arith in
    rw (← c.self.view_is, c.in-Some.is)
    (keyed_put 0 c.self.inside.keys c.put.new.self c.self.inside.numbers c.args.port c.args.channel c.in-Some.number
    c.requires.port c.requires.channel high wide
    (rw (c.is_some.ensures, c.in-Some.is) at c.put.ensures))

pub returns-in_default : goal.returns-in_default
returns-in_default c =
    rw (← c.self.view_is, c.in_default.is)
    (keyed_taken 0 c.self.inside.keys c.put.new.self c.self.inside.numbers c.args.port c.args.channel
    c.requires.port c.requires.channel (rw (c.is_some.ensures, c.in_default.is) at c.put.ensures))
