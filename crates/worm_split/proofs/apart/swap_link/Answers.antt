use Rattle.std.proofs.Common.{rules}
use Rattle.worm_split.proofs.apart.swap_link.Goals as goal

pub returns-then-near : goal.returns-then-near
returns-then-near c = search rules

pub returns-else-near : goal.returns-else-near
returns-else-near c = search rules
