use Rattle.std.proofs.Common.{rules}
use Rattle.worm_alone.proofs.fault.ProgramFaultDisplay.fmt.Goals as goal

pub returns-in-ReadTraffic-clause-writes : goal.returns-in-ReadTraffic-clause-writes
returns-in-ReadTraffic-clause-writes g c = search rules
