use Rattle.std.proofs.Common.{refl}
use Rattle.worm_region.proofs.CountsUnderWay.{delivered_more, stays, takes}
use Rattle.worm_region.proofs.nodes.Nodes.deliver.Goals as goal

pub invariant_of-self : goal.invariant_of-self
invariant_of-self c =
    let n = c.index_mut-here.result.now in
    stays c.self.inside.list.items c.self.inside.resting c.self.inside.under_way
    c.from.result c.from-2.result c.args.node n c.deliver.new.self
    c.self.invariant c.from.ensures c.from-2.ensures (rw c.self.view_is c.requires.node) c.index_mut-here.ensures.value
    (rw c.if-not-deliver.ensures.after (refl, refl))

pub invariant_of-self-2 : goal.invariant_of-self-2
invariant_of-self-2 c =
    let n = c.index_mut-here.result.now in
    let more = delivered_more n c.args.port c.args.vc c.args.flit in
    takes c.self.inside.list.items c.self.inside.resting c.self.inside.under_way
    c.from.result c.from-2.result c.args.node n c.deliver.new.self
    c.self.invariant c.from.ensures c.from-2.ensures
    (rw c.self.view_is c.requires.node) c.index_mut-here.ensures.value c.one_fewer-self-inside.result
    (rw c.if-not-deliver.ensures.after more.0)
    (rw c.if-not-deliver.ensures.after more.1) c.one_fewer-self-inside.ensures
