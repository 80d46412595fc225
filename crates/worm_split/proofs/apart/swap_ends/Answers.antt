use Rattle.std.proofs.Common.{arith}
use Rattle.worm_split.proofs.Swapping.{ends_further}
use Rattle.worm_split.proofs.apart.swap_ends.Goals as goal

pub loop-k-preserved : goal.loop-k-preserved
loop-k-preserved c =
    let s = c.loop-k in
    let ways = c.requires.ways in
    ends_further c.args.own c.args.ways.now.items s.k c.index-way.result.now
    (omega arith) c.index-way.ensures c.owns.result
    c.owns-in-loop-k.result c.owns.ensures c.owns-in-loop-k.ensures c.args.pairs.now.items c.args.ends.now.items
    s.pairs.items s.ends.items
    c.index_mut.result.now c.index_mut-in-loop-k.result.now c.swap_end.new.pair c.swap_end.new.end s.invariant
    (omega arith)
    c.index_mut.ensures.value c.index_mut-in-loop-k.ensures.value c.swap_end.ensures
