use Rattle.std.proofs.Common.{rules}
use Rattle.worm_core.proofs.net.Net.take_steps.Goals as goal

pub returns-in-Err-clause-answered : goal.returns-in-Err-clause-answered
returns-in-Err-clause-answered c = search rules
