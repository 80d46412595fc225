use Rattle.std.proofs.Common.{rules}
use Rattle.worm_split.proofs.ends.push_credit.Goals as goal

pub returns-in-Entering : goal.returns-in-Entering
returns-in-Entering g c = search rules
