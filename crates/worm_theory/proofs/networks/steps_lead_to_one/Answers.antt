use Rattle.worm_theory.proofs.Lists.{steps_unique, steps-append}
use Rattle.worm_theory.proofs.networks.steps_lead_to_one.Goals as goal

pub returns-clause-one : goal.returns-clause-one
returns-clause-one c = λ s steps old new other h g. steps_unique s steps old new other h g

pub returns-clause-joined : goal.returns-clause-joined
returns-clause-joined c = λ s first then old mid new h g. steps-append s first then old mid new h g
