use Rattle.worm_theory.proofs.Others.{step_others, steps_others}
use Rattle.worm_theory.proofs.networks.others_stay_idle.Goals as goal

pub returns-clause-step : goal.returns-clause-step
returns-clause-step c = λ s mesh net step there _ idle. step_others s mesh net idle step there

pub returns-clause-steps : goal.returns-clause-steps
returns-clause-steps c = λ s mesh. steps_others s mesh
