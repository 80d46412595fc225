use Rattle.std.proofs.Common.{◌<◌, arith}
use Rattle.worm_vcalloc.proofs.SetMembers.{lowest_of_port, port_taken}
use Rattle.worm_vcalloc.proofs.channel_set.ChannelSet.pop_port_lowest.Goals as goal

pub returns : goal.returns
returns c =
    let some : 0 < c.self.inside.bits = omega arith in
    rw (← c.self.view_is) (
      port_taken c.self.inside.bits some c.self.invariant,
      lowest_of_port c.self.inside.bits some c.self.invariant,
    )
