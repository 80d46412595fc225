use Rattle.std.proofs.Common.{◌≡◌, Some, rules}
use Rattle.worm_region.specs.declared.fault.StepFault.TheVariants.{NoMemory as NoRoom}
use Rattle.worm_report.specs.Report.{report}
use Rattle.worm_report.specs.Seen.{seen}
use Rattle.worm_alone.specs.Programs.{stream}
use Rattle.worm_alone.proofs.Reporting.{no_room, ran_out, report_lines}
use Rattle.worm_alone.proofs.alone.report_run.Goals as goal

pub returns-in-Err-NoMemory : goal.returns-in-Err-NoMemory
returns-in-Err-NoMemory g c =
    no_room (stream (g.W.Write.contents c.args.out.now) (g.W.Write.contents c.write_report.new.out)) c.args.fault _
    c.in-Err-NoMemory.field-0 c.in-Err-NoMemory.field-0-is c.in-Err-NoMemory.ensures.text

pub returns-in-Ok : goal.returns-in-Ok
returns-in-Ok g c =
    let want : c.args.fault ≡ Some NoRoom = search rules in
    ran_out (stream (g.W.Write.contents c.args.out.now) (g.W.Write.contents c.write_report.new.out)) c.args.fault
    (report (seen c.args.net.now) c.args.summary.now) (report_lines (seen c.args.net.now) c.args.summary.now)
    c.in-Ok.ensures.text want
