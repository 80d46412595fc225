use Rattle.std.proofs.Common.{rules}
use Rattle.worm_flit.proofs.is_opening.Goals as goal

pub returns-in-Body : goal.returns-in-Body
returns-in-Body c = search rules
