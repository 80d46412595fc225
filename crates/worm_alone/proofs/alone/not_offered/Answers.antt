use Rattle.std.proofs.Common.{rules}
use Rattle.worm_alone.proofs.alone.not_offered.Goals as goal

pub returns : goal.returns
returns c = search rules
