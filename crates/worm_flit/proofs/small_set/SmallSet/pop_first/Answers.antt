use Rattle.std.proofs.Common.{arith}
use Rattle.worm_flit.proofs.SmallSets.{first_taken}
use Rattle.worm_flit.proofs.small_set.SmallSet.pop_first.Goals as goal

pub returns : goal.returns
returns c = rw (← c.self.view_is) (first_taken c.self.inside.bits (omega arith) (omega arith))
