use Rattle.std.proofs.Common.{rules}
use Rattle.worm_region.specs.Parts.{parts_state}
use Rattle.worm_region.proofs.NewNet.{workable}
use Rattle.worm_core.proofs.net.Net.from_parts.Goals as goal

pub from_parts-requires : goal.from_parts-requires
from_parts-requires c = rw (c.sole.ensures) (workable (parts_state c.args.parts) c.requires)

pub of-requires : goal.of-requires
of-requires c = search rules

pub returns : goal.returns
returns c = search rules
