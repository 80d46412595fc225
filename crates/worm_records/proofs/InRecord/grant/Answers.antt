use Rattle.std.proofs.Common.{rules}
use Rattle.worm_records.proofs.InRecord.grant.Goals as goal

pub returns-in-Waiting : goal.returns-in-Waiting
returns-in-Waiting c = search rules
