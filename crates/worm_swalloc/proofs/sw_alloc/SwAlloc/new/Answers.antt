use Rattle.std.proofs.Common.{rules}
use Rattle.worm_swalloc.proofs.sw_alloc.SwAlloc.new.Goals as goal

pub returns : goal.returns
returns c = search rules

pub invariant_of-result : goal.invariant_of-result
invariant_of-result c = search rules
