use Rattle.std.proofs.Common.{rules}
use Rattle.worm_flit.proofs.is_closing.Goals as goal

pub returns-in-Head : goal.returns-in-Head
returns-in-Head c = search rules
