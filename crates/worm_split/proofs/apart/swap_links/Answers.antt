use Rattle.std.proofs.Common.{arith}
use Rattle.worm_split.proofs.Swapping.{links_further}
use Rattle.worm_split.proofs.apart.swap_links.Goals as goal

pub loop-k-preserved : goal.loop-k-preserved
loop-k-preserved c =
    let s = c.loop-k in
    let ways = c.requires.ways in
    links_further c.args.own c.args.ways.now.items s.k c.index-way.result.now
    (omega arith) c.index-way.ensures c.owns.result
    c.owns-in-loop-k.result c.owns.ensures c.owns-in-loop-k.ensures c.args.kept.now.items c.args.links.now.items
    s.kept.items s.links.items
    c.index_mut.result.now c.index_mut-in-loop-k.result.now c.swap_link.new.kept c.swap_link.new.link s.invariant
    (omega arith)
    c.index_mut.ensures.value c.index_mut-in-loop-k.ensures.value c.swap_link.ensures
