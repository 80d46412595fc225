use Rattle.std.proofs.Common.{rules}
use Rattle.worm_links.proofs.flits.link.Goals as goal

pub returns-clause-link : goal.returns-clause-link
returns-clause-link c = search rules
