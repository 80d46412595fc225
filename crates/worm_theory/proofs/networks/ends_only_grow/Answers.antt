use Rattle.worm_theory.proofs.Growth.{steps_sinks, steps_sources}
use Rattle.worm_theory.proofs.networks.ends_only_grow.Goals as goal

pub returns-clause-sinks : goal.returns-clause-sinks
returns-clause-sinks c = λ s steps old new mesh lead. steps_sinks s mesh steps old new lead

pub returns-clause-sources : goal.returns-clause-sources
returns-clause-sources c = λ s steps old new lead. steps_sources s steps old new lead
