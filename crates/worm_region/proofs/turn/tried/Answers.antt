use Rattle.std.proofs.Common.{rules}
use Rattle.worm_region.proofs.turn.tried.Goals as goal

pub returns-in-Err : goal.returns-in-Err
returns-in-Err c = search rules
