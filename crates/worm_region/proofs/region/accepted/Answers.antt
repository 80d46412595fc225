use Rattle.std.proofs.Common.{rules}
use Rattle.worm_region.proofs.region.accepted.Goals as goal

pub returns-in-Err-NoMemory : goal.returns-in-Err-NoMemory
returns-in-Err-NoMemory c = search rules

pub returns-in-Err-clause-value : goal.returns-in-Err-clause-value
returns-in-Err-clause-value c = search rules

pub returns-in-Err-clause-never_idle : goal.returns-in-Err-clause-never_idle
returns-in-Err-clause-never_idle c = search rules
