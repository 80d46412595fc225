use Rattle.std.proofs.Common.{rules}
use Rattle.worm_region.proofs.fabric.Fabric.give_credit.Goals as goal

pub returns : goal.returns
returns c = search rules
