use Rattle.worm_swalloc.proofs.ReadyCells.{keys_are}
use Rattle.worm_swalloc.proofs.ready.Ready.keys.Goals as goal

pub returns : goal.returns
returns c = λ p k p_in k_in. rw (← c.self.view_is)
    (keys_are c.self.inside.outs.now c.self.inside.among p k c.self.invariant p_in k_in)
