use Rattle.std.proofs.Common.{rules}
use Rattle.worm_alone.proofs.fault.ProgramFault.status.Goals as goal

pub returns-in-Network : goal.returns-in-Network
returns-in-Network c = search rules
