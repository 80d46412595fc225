use Rattle.worm_split.specs.Exchange.{EndsSwapped}
use Rattle.worm_split.proofs.apart.swap_ends.Given as goal

abbrev pub invariant-loop-k : goal.invariant-loop-k
invariant-loop-k l = EndsSwapped l.own l.ways.items l.k l.fn.pairs.items l.fn.ends.items l.pairs.items l.ends.items
