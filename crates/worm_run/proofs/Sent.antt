-- A part may be moved to another thread, and so may what its worker gives back: neither has what is one thread's alone.
use denote.Param.Send.{IsSend, sendable}
use Rattle.std.proofs.Crossing.{crosses}
use Rattle.worm_region.proofs.Sent.{region_send}
use Rattle.worm_split.proofs.ends.End.TheSendSync.{the_send as end_send}
use Rattle.worm_split.proofs.Sent.{kept_send}
use Rattle.worm_split.specs.contracts.part.Part as Part
use Rattle.worm_run.specs.contracts.working.Worked as Worked

pub part_send : IsSend Part.the_row
part_send = let a = region_send in let b = end_send in let c = kept_send in search (sendable, crosses) depth 60

pub worked_send : IsSend Worked.the_row
worked_send = let a = part_send in search (sendable, crosses) depth 60
