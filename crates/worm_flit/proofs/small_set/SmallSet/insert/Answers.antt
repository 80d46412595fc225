use Rattle.worm_flit.proofs.SmallSets.{put_in}
use Rattle.worm_flit.proofs.small_set.SmallSet.insert.Goals as goal

pub returns : goal.returns
returns c = rw (← c.self.view_is) (put_in c.self.inside.bits c.args.number c.requires)
