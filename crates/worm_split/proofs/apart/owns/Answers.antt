use Rattle.std.proofs.Common.{rules}
use Rattle.worm_split.proofs.apart.owns.Goals as goal

pub returns : goal.returns
returns c = search rules
