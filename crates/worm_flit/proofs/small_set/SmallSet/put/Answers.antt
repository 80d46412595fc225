use Rattle.std.proofs.Common.{rules}
use Rattle.worm_flit.proofs.small_set.SmallSet.put.Goals as goal

pub returns-else-within : goal.returns-else-within
returns-else-within c = search rules
