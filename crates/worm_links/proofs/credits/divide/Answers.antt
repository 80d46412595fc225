use Rattle.std.specs.Prelude.{⊤}
use Rattle.std.proofs.Common.{ap}
use Rattle.worm_links.specs.Links.{IsCreditHistory}
use Rattle.worm_links.proofs.Histories.{divides}
use Rattle.worm_links.proofs.OnLines.{no_credit}
use Rattle.worm_links.proofs.credits.divide.Goals as goal

pub another-requires-clause-rule : goal.another-requires-clause-rule
another-requires-clause-rule g c =
    let is = c.requires.queue.1 in
    divides (λ c. c) (λ c. ⊤) IsCreditHistory _ _ _ (ap (λ v. v.pushes) is) (ap (λ v. v.pops) is) (ap (λ v. v.sent) is)
    (no_credit g.B.Naming.link)
