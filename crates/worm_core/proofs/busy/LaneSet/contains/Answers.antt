use Rattle.std.proofs.Common.{rules}
use Rattle.worm_core.proofs.busy.LaneSet.contains.Goals as goal

pub returns : goal.returns
returns c = search rules
