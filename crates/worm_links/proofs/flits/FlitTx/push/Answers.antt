use Rattle.std.proofs.Common.{rules}
use Rattle.worm_links.proofs.flits.FlitTx.push.Goals as goal

pub returns-clause-full : goal.returns-clause-full
returns-clause-full g c = search rules

pub returns-clause-sent : goal.returns-clause-sent
returns-clause-sent g c = search rules

pub returns-clause-back : goal.returns-clause-back
returns-clause-back g c = search rules
