use Rattle.std.proofs.Common.{subst}
use Rattle.worm_region.specs.State.{IsNet}
use Rattle.worm_core.proofs.Headline.{delivers}
use Rattle.worm_core.proofs.net.Net.recall.Goals as goal

pub returns-clause-delivers : goal.returns-clause-delivers
returns-clause-delivers c = delivers c.args.self.now (subst IsNet c.self.view_is c.self.invariant)
