use Rattle.worm_split.specs.Exchange.{LinksSwapped}
use Rattle.worm_split.proofs.apart.swap_links.Given as goal

abbrev pub invariant-loop-k : goal.invariant-loop-k
invariant-loop-k l = LinksSwapped l.own l.ways.items l.k l.fn.kept.items l.fn.links.items l.kept.items l.links.items
