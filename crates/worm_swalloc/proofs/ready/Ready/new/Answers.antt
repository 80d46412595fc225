use Rattle.std.proofs.Common.{rules}
use Rattle.worm_swalloc.proofs.ready.Ready.new.Goals as goal

pub returns : goal.returns
returns c = search rules
