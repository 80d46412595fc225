use Rattle.std.proofs.Common.{◌<◌, length, arith}
use Rattle.worm_vcalloc.proofs.ChannelsAllowed.{allowed_more}
use Rattle.worm_vcalloc.proofs.asked.file_allowed.Goals as goal

pub loop-channel-preserved : goal.loop-channel-preserved
loop-channel-preserved c =
    let first = c.in-Some.ensures in
    let long : c.in-Some.channel < length c.loop-channel.by_channel = omega (arith, first.in_range) in
    allowed_more c.args.by_channel.now c.loop-channel.by_channel c.args.port c.args.vc c.args.allowed
    c.loop-channel.left c.pop_first.new.self c.in-Some.channel _ c.put.new.self c.loop-channel.invariant first long
    c.put.ensures
