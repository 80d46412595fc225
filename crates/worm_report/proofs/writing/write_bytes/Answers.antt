use Rattle.std.proofs.Common.{rules}
use Rattle.worm_report.proofs.writing.write_bytes.Goals as goal

pub returns-in-Err : goal.returns-in-Err
returns-in-Err g c = search rules
