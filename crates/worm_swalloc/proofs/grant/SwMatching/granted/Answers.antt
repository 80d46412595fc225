use Rattle.worm_swalloc.proofs.GrantsOfSet.{are_granted}
use Rattle.worm_swalloc.proofs.grant.SwMatching.granted.Goals as goal

pub returns : goal.returns
returns c = rw (← c.self.view_is)
    (are_granted c.self.inside.requests c.self.inside.granted c.self.invariant.0 c.self.invariant.1)
