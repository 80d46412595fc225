use Rattle.worm_report.specs.Seen.{seen}
use Rattle.worm_report.specs.Report.{underway_rows}
use Rattle.worm_report.proofs.Written.{no_memory}
use Rattle.worm_report.proofs.report.put_underway.Goals as goal

pub returns-in-Err : goal.returns-in-Err
returns-in-Err g c = no_memory (underway_rows (seen c.args.net.now))
