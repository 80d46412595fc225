use Rattle.std.proofs.Common.{arith}
use Rattle.worm_flit.proofs.SmallSets.{put_out}
use Rattle.worm_flit.proofs.small_set.SmallSet.remove.Goals as goal

pub returns : goal.returns
returns c =
    let requires = c.requires in rw (← c.self.view_is) (put_out c.self.inside.bits c.args.number (omega arith))
