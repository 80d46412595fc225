use Rattle.std.proofs.Common.{rules}
use Rattle.worm_split.proofs.ends.pop_flit.Goals as goal

pub returns-in-Entering-clause-none : goal.returns-in-Entering-clause-none
returns-in-Entering-clause-none c = search rules
