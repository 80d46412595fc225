use Rattle.std.proofs.Common.{rules}
use Rattle.worm_text.proofs.fault.WhyDisplay.fmt.Goals as goal

pub returns-clause-writes : goal.returns-clause-writes
returns-clause-writes g c = search rules
