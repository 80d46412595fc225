use Rattle.worm_region.proofs.CountsUnderWay.{uncounted}
use Rattle.worm_region.proofs.nodes.Nodes.source_mut.Goals as goal

pub invariant_of-self-lent : goal.invariant_of-self-lent
invariant_of-self-lent c = λ w.
    let n = c.index_mut-here.result.now in
    uncounted c.self.inside.list.items c.self.inside.resting c.self.inside.under_way
    c.from.result c.from-2.result c.args.node n (record n { source = w })
    c.self.invariant c.from.ensures c.from-2.ensures (rw c.self.view_is c.requires) c.index_mut-here.ensures.value
