use Rattle.std.proofs.Common.{rules}
use Rattle.worm_records.proofs.OutRecord.grant.Goals as goal

pub returns : goal.returns
returns c = search rules
