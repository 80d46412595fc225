use Rattle.std.proofs.Common.{rules}
use Rattle.worm_split.proofs.memory.make_pair_of.Goals as goal

pub returns : goal.returns
returns c = search rules
