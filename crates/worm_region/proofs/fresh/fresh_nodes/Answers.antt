use Rattle.std.proofs.Common.{rules}
use Rattle.worm_region.proofs.fresh.fresh_nodes.Goals as goal

pub returns-clause-fresh : goal.returns-clause-fresh
returns-clause-fresh c = search rules
