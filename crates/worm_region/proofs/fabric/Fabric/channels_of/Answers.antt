use Rattle.std.proofs.Common.{rules}
use Rattle.worm_region.proofs.fabric.Fabric.channels_of.Goals as goal

pub returns-clause-end : goal.returns-clause-end
returns-clause-end c = search rules
