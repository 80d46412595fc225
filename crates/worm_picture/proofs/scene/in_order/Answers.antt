use Rattle.std.proofs.Common.{rules}
use Rattle.worm_picture.proofs.scene.in_order.Goals as goal

pub returns : goal.returns
returns c = search rules
