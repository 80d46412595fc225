use Rattle.worm_theory.proofs.Keeps.{step_sound, steps_sound}
use Rattle.worm_theory.proofs.networks.stays_sound.Goals as goal

pub returns-clause-step : goal.returns-clause-step
returns-clause-step c = λ s mesh. step_sound s mesh

pub returns-clause-steps : goal.returns-clause-steps
returns-clause-steps c = λ s mesh. steps_sound s mesh
