use Rattle.std.proofs.Common.{rules}
use Rattle.worm_program.proofs.program.run_texts.Goals as goal

pub returns-then-options-eq1 : goal.returns-then-options-eq1
returns-then-options-eq1 g c = search rules
