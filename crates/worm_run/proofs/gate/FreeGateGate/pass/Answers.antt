use Rattle.std.proofs.Common.{rules}
use Rattle.worm_run.proofs.gate.FreeGateGate.pass.Goals as goal

pub returns-clause-stops : goal.returns-clause-stops
returns-clause-stops c = search rules
