use Rattle.worm_theory.specs.Region.{among}
use Rattle.worm_theory.proofs.RegionQueues.{pull_credit_region}
use Rattle.worm_theory.proofs.Regions.{past_worms, push_part, pull_part}
use Rattle.worm_theory.proofs.parts.goes_between_parts.Goals as goal

pub returns-clause-past : goal.returns-clause-past
returns-clause-past c = λ s old mesh was y o x linked v. past_worms s mesh old was y o x linked v

pub returns-clause-push : goal.returns-clause-push
returns-clause-push c =
    λ s old own net taken returned mesh part x p v o d z f here there linked port active front.
    push_part s mesh old own net taken returned part x p v o d z f here there linked port active front

pub returns-clause-pull : goal.returns-clause-pull
returns-clause-pull c =
    λ s old own net taken returned mesh part y o x f linked far here continues leaves.
    pull_part s mesh old own net taken returned part y o x f linked far here continues leaves

pub returns-clause-pull_credit : goal.returns-clause-pull_credit
returns-clause-pull_credit c =
    λ s old own net taken returned mesh part y o x d linked here far.
    pull_credit_region s mesh old own (among own net old) taken returned part y o x linked d here far
