use Rattle.std.proofs.Common.{rules}
use Rattle.worm_core.proofs.net.Net.has_lane.Goals as goal

pub returns-then-from-nodes-2 : goal.returns-then-from-nodes-2
returns-then-from-nodes-2 c = search rules
