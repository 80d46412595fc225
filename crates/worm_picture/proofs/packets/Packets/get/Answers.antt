use Rattle.std.proofs.Common.{rules}
use Rattle.worm_picture.proofs.packets.Packets.get.Goals as goal

pub returns-in-Some : goal.returns-in-Some
returns-in-Some c = search rules
