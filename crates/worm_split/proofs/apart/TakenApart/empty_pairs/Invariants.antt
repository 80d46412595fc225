use Rattle.worm_split.specs.Apart.{taken_apart}
use Rattle.worm_split.proofs.PairsEmptied.{PairsSoFar}
use Rattle.worm_split.proofs.apart.TakenApart.empty_pairs.Given as goal

abbrev pub invariant-loop-k : goal.invariant-loop-k
invariant-loop-k g l =
    let i = l.self-inside in
    PairsSoFar l.workers l.k l.fn.self (taken_apart i.config i.ways.items i.nodes.items i.links.items i.pairs.items)
