use Rattle.std.proofs.Common.{rules}
use Rattle.worm_region.proofs.region.Region.from_parts.Goals as goal

pub returns : goal.returns
returns c = search rules

pub invariant_of-result : goal.invariant_of-result
invariant_of-result c = search rules
