use Rattle.worm_script.proofs.script.Script.TheSendSync.{the_sync as script_sync}
use Rattle.worm_run.proofs.Sent.{part_send}
use denote.Param.Send.{sendable}
use Rattle.std.proofs.Crossing.{crosses}
use Rattle.worm_run_tests.proofs.parts.start.Goals as goal

pub spawn_with-requires-send-F : goal.spawn_with-requires-send-F
spawn_with-requires-send-F g t c κs =
    let a = part_send in
    let b = script_sync in
    search (sendable, crosses) depth 60

pub spawn_with-requires-send-T : goal.spawn_with-requires-send-T
spawn_with-requires-send-T g t c κs = let a = part_send in search (sendable, crosses) depth 60
