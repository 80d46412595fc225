use Rattle.std.proofs.Common.{rules}
use Rattle.worm_picture.proofs.scene.exit_port.Goals as goal

pub returns-then-from-nodes-2 : goal.returns-then-from-nodes-2
returns-then-from-nodes-2 c = search rules
