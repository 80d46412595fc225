use Rattle.worm_split.specs.Apart.{taken_apart}
use Rattle.worm_split.proofs.Exchanged.{exchanged}
use Rattle.worm_split.proofs.apart.TakenApart.exchange.Goals as goal

pub returns : goal.returns
returns c =
    let i = c.self.inside in
    let a = c.args in
    exchanged a.own (taken_apart i.config i.ways.items i.nodes.items i.links.items i.pairs.items) a.self.now
    c.self.view_is a.nodes.now.items c.swap_nodes.new.kept.items c.swap_nodes.new.nodes.items a.links.now.items
    c.swap_links.new.kept.items c.swap_links.new.links.items a.ends.now.items c.swap_ends.new.ends.items
    c.swap_ends.new.pairs.items c.self.invariant c.requires.paired c.swap_nodes.ensures c.swap_links.ensures
    c.swap_ends.ensures

pub invariant_of-self : goal.invariant_of-self
invariant_of-self c = (returns c).fits
