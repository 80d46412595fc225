use Rattle.std.proofs.Common.{rules}
use Rattle.worm_core.proofs.net.Net.node_totals.Goals as goal

pub loop-class-preserved : goal.loop-class-preserved
loop-class-preserved c = search rules
