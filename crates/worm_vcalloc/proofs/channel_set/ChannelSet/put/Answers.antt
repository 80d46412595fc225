use Rattle.std.proofs.Common.{sym, subst, ◌+◌, ◌*◌, ◌<◌, ◌^◌}
use Rattle.worm_vcalloc.specs.ChannelSet.{IsPut}
use Rattle.worm_vcalloc.proofs.SetMembers.{put_as, written}
use Rattle.worm_vcalloc.proofs.channel_set.ChannelSet.put.Goals as goal

pub invariant_of-self : goal.invariant_of-self
invariant_of-self c =
    let put = put_as c.self.inside.bits c.args.port c.args.channel c.args.within c.self.invariant c.requires.port
    c.requires.channel in
    subst (λ n. written c.self.inside.bits (8 * c.args.port + c.args.channel) n < 2 ^ 56) (sym c.from.ensures) put.small

pub returns : goal.returns
returns c =
    let put = put_as c.self.inside.bits c.args.port c.args.channel c.args.within c.self.invariant c.requires.port
    c.requires.channel in
    subst (λ old. IsPut old (written c.self.inside.bits (8 * c.args.port + c.args.channel) c.from.result) c.args.port
    c.args.channel c.args.within) c.self.view_is
    (subst (λ n. IsPut c.self.inside.bits
    (written c.self.inside.bits (8 * c.args.port + c.args.channel) n) c.args.port c.args.channel c.args.within)
    (sym c.from.ensures) put)
