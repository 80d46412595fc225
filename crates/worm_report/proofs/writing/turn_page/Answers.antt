use Rattle.std.proofs.Common.{rules}
use Rattle.worm_report.proofs.writing.turn_page.Goals as goal

pub returns-clause-given : goal.returns-clause-given
returns-clause-given g c = search rules
