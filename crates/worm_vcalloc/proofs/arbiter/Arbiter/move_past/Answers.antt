use Rattle.std.proofs.Common.{rules}
use Rattle.worm_vcalloc.proofs.arbiter.Arbiter.move_past.Goals as goal

pub returns : goal.returns
returns c = search rules
