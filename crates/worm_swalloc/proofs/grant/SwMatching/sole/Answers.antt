use Rattle.std.proofs.Common.{◌∙◌}
use Rattle.worm_swalloc.proofs.GrantsOfSet.{sole_below, sole_requested, sole_granted_of}
use Rattle.worm_swalloc.proofs.grant.SwMatching.sole.Goals as goal

pub among-requires-clause-below : goal.among-requires-clause-below
among-requires-clause-below c = sole_below c.args.port c.args.grant c.requires.port c.requires.channel

pub among-requires-clause-requested : goal.among-requires-clause-requested
among-requires-clause-requested c = sole_requested c.args.port c.args.grant c.requires.port c.requires.channel
    c.new-granted.result c.put.new.self c.new-granted.ensures c.put.ensures

pub returns : goal.returns
returns c = c.among.ensures
    ∙ sole_granted_of c.args.port c.args.grant c.requires.port c.requires.channel c.new-granted.result c.put.new.self
    c.new-granted.ensures c.put.ensures
