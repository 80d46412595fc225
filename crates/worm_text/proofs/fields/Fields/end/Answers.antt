use Rattle.std.proofs.Common.{rules}
use Rattle.worm_text.proofs.fields.Fields.end.Goals as goal

pub returns-in-Some-clause-answer : goal.returns-in-Some-clause-answer
returns-in-Some-clause-answer c = search rules
