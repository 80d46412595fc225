use Rattle.std.proofs.Common.{rules}
use Rattle.worm_region.proofs.fabric.Fabric.has_place.Goals as goal

pub returns-then-has_link : goal.returns-then-has_link
returns-then-has_link c = search rules
