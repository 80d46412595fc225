use Rattle.std.proofs.Common.{rules}
use Rattle.worm_vcalloc.proofs.arbiter.Arbiter.pointer.Goals as goal

pub returns-then-next-self : goal.returns-then-next-self
returns-then-next-self c = search rules
