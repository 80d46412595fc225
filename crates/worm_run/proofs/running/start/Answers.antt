use Rattle.std.proofs.Common.{rules}
use Rattle.worm_script.proofs.script.Script.TheSendSync.{the_sync as script_sync}
use Rattle.worm_run.proofs.Sent.{part_send, worked_send}
use denote.Param.Send.{sendable}
use Rattle.std.proofs.Crossing.{crosses}
use Rattle.worm_run.proofs.running.start.Goals as goal

pub spawn_with-requires-send-F : goal.spawn_with-requires-send-F
spawn_with-requires-send-F g t c κs =
    let a = part_send in
    let b = script_sync in
    search (sendable, crosses) depth 60

pub spawn_with-requires-send-T : goal.spawn_with-requires-send-T
spawn_with-requires-send-T g t c κs = let a = worked_send in search (sendable, crosses) depth 60

pub returns-clause-refused : goal.returns-clause-refused
returns-clause-refused g c = search rules
