use Rattle.std.proofs.Common.{rules}
use Rattle.worm_core.proofs.busy.LaneSet.mark_out.Goals as goal

pub returns-clause-marked : goal.returns-clause-marked
returns-clause-marked c = search rules
