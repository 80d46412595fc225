use Rattle.std.proofs.Common.{rules}
use Rattle.worm_text.proofs.traffic.ClosedLanes.note.Goals as goal

pub returns-in-Close : goal.returns-in-Close
returns-in-Close c = search rules
