use Rattle.std.proofs.Common.{rules}
use Rattle.worm_term.proofs.source.make_lanes.Goals as goal

pub returns : goal.returns
returns c = search rules
