use Rattle.std.proofs.Common.{rules}
use Rattle.worm_text.proofs.key.Key.of.Goals as goal

pub returns-then-eq-2 : goal.returns-then-eq-2
returns-then-eq-2 c = search rules
