use Rattle.std.proofs.Common.{rules}
use Rattle.worm_region.proofs.owner.Owner.sole.Goals as goal

pub returns : goal.returns
returns c = search rules
