use Rattle.std.proofs.Common.{rules}
use Rattle.worm_records.proofs.InRecord.release.Goals as goal

pub returns : goal.returns
returns c = search rules
