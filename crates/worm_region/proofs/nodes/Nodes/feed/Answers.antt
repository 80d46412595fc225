use Rattle.worm_term.specs.Source.{front_of}
use Rattle.worm_region.proofs.CountsUnderWay.{fed_if, stays}
use Rattle.worm_region.proofs.nodes.Nodes.feed.Goals as goal

pub invariant_of-self : goal.invariant_of-self
invariant_of-self c =
    let n = c.index_mut-here.result.now in
    stays c.self.inside.list.items c.self.inside.resting c.self.inside.under_way
    c.from.result c.from-2.result c.args.node n c.feed.new.self
    c.self.invariant c.from.ensures c.from-2.ensures (rw c.self.view_is c.requires.node) c.index_mut-here.ensures.value
    (fed_if n c.feed.new.self c.args.class (front_of n.source c.args.class) c.feed.result c.feed.ensures.after)
