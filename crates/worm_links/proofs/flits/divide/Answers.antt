use Rattle.std.proofs.Common.{ap}
use Rattle.worm_flit.specs.Packing.{flit_of}
use Rattle.worm_links.specs.Links.{IsWord, IsLinkHistory}
use Rattle.worm_links.proofs.Histories.{divides}
use Rattle.worm_links.proofs.OnLinks.{none_yet}
use Rattle.worm_links.proofs.flits.divide.Goals as goal

pub another-requires-clause-rule : goal.another-requires-clause-rule
another-requires-clause-rule g c =
    let is = c.requires.queue.1 in
    divides flit_of IsWord IsLinkHistory _ _ _ (ap (λ v. v.pushes) is) (ap (λ v. v.pops) is) (ap (λ v. v.sent) is)
    (none_yet g.B.Naming.link c.requires.past)
