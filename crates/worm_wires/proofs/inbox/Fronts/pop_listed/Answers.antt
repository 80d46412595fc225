use Rattle.std.proofs.Common.{rules}
use Rattle.worm_wires.proofs.inbox.Fronts.pop_listed.Goals as goal

pub returns-clause-list : goal.returns-clause-list
returns-clause-list g c = search rules

pub returns-clause-room : goal.returns-clause-room
returns-clause-room g c = search rules
