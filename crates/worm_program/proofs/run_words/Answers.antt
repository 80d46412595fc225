use Rattle.std.proofs.Common.{rules}
use Rattle.worm_program.proofs.run_words.Goals as goal

pub returns-in-Ok-clause-status : goal.returns-in-Ok-clause-status
returns-in-Ok-clause-status g c = search rules
