use Rattle.std.proofs.Common.{rules}
use Rattle.worm_wires.proofs.link.LinkState.room.Goals as goal

pub returns : goal.returns
returns c = search rules
