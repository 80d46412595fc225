use Rattle.std.proofs.Common.{arith}
use Rattle.worm_flit.proofs.SmallSets.{has_first_alone}
use Rattle.worm_flit.proofs.small_set.SmallSet.difference.Goals as goal

pub returns : goal.returns
returns c = λ n within. rw (
  ← c.self.view_is,
  ← c.other.view_is,
) (has_first_alone c.self.inside.bits c.other.inside.bits n (omega arith) within)
