use Rattle.std.proofs.Common.{rules}
use Rattle.worm_picture.proofs.packets.flit_of.Goals as goal

pub returns-in-Underway-clause-moved : goal.returns-in-Underway-clause-moved
returns-in-Underway-clause-moved c = search rules
