use Rattle.std.proofs.Common.{replicate, None, ap, ◌∙◌}
use Rattle.worm_swalloc.specs.SwAlloc.{granted_of}
use Rattle.worm_swalloc.proofs.GrantsOfSet.{none_granted}
use Rattle.worm_swalloc.proofs.grant.SwMatching.new.Goals as goal

pub returns : goal.returns
returns c = ap (granted_of (replicate 7 None)) c.new-granted.ensures ∙ none_granted (replicate 7 None)
