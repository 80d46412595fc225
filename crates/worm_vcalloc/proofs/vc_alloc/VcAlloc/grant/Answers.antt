use Rattle.std.proofs.Common.{rules}
use Rattle.worm_vcalloc.proofs.vc_alloc.VcAlloc.grant.Goals as goal

pub returns-clause-pass : goal.returns-clause-pass
returns-clause-pass c = search rules

pub returns-clause-matching : goal.returns-clause-matching
returns-clause-matching c = search rules
