use Rattle.std.proofs.Common.{rules}
use Rattle.worm_picture.proofs.signs.shape_of.Goals as goal

pub returns-then-index-last-clause-shape : goal.returns-then-index-last-clause-shape
returns-then-index-last-clause-shape c = search rules
