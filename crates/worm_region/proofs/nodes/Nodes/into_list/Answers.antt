use Rattle.std.proofs.Common.{rules}
use Rattle.worm_region.proofs.nodes.Nodes.into_list.Goals as goal

pub returns : goal.returns
returns c = search rules
