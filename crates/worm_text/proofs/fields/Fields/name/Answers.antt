use Rattle.std.proofs.Common.{rules}
use Rattle.worm_text.proofs.fields.Fields.name.Goals as goal

pub returns-in-None-clause-answer : goal.returns-in-None-clause-answer
returns-in-None-clause-answer c = search rules
