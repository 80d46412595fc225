use Rattle.std.proofs.Common.{rules}
use Rattle.worm_region.proofs.region.moved.Goals as goal

pub returns-then-done : goal.returns-then-done
returns-then-done c = search rules
