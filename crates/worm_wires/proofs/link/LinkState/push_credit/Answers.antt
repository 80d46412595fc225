use Rattle.std.proofs.Common.{rules}
use Rattle.worm_wires.proofs.link.LinkState.push_credit.Goals as goal

pub returns : goal.returns
returns c = search rules
