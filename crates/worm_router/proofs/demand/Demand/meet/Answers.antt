use Rattle.std.proofs.Common.{rules}
use Rattle.worm_router.proofs.demand.Demand.meet.Goals as goal

pub returns : goal.returns
returns c = search rules
