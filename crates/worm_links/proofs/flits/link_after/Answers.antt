use Rattle.std.proofs.Common.{rules}
use Rattle.worm_flit.specs.Packing.{flit_of}
use Rattle.worm_links.specs.Links.{IsWord, no_link, IsLinkHistory}
use Rattle.worm_links.proofs.Histories.{begins}
use Rattle.worm_links.proofs.OnLinks.{none_yet}
use Rattle.worm_links.proofs.flits.link_after.Goals as goal

pub ruled-requires-clause-rule : goal.ruled-requires-clause-rule
ruled-requires-clause-rule g c = begins flit_of IsWord IsLinkHistory no_link (none_yet no_link (λ c. tt))

pub invariant_of-sender : goal.invariant_of-sender
invariant_of-sender g c = search rules
