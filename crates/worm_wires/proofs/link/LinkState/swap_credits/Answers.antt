use Rattle.std.proofs.Common.{rules}
use Rattle.worm_wires.proofs.link.LinkState.swap_credits.Goals as goal

pub returns-clause-this : goal.returns-clause-this
returns-clause-this c = search rules

pub returns-clause-that : goal.returns-clause-that
returns-clause-that c = search rules
