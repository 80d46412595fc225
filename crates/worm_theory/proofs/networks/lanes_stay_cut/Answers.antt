use Rattle.worm_theory.proofs.Keeps.{step_sound}
use Rattle.worm_theory.proofs.CutKeeps.{step_cut, steps_keep}
use Rattle.worm_theory.proofs.Stamps.{accepted_once, cut_once}
use Rattle.worm_theory.proofs.networks.lanes_stay_cut.Goals as goal

pub returns-clause-step : goal.returns-clause-step
returns-clause-step c = λ s mesh net step there enabled kept. (
  step_sound s mesh net step there enabled kept.0,
  step_cut s mesh net step there kept.0 kept.1,
)

pub returns-clause-steps : goal.returns-clause-steps
returns-clause-steps c = λ s mesh steps old new lead kept. steps_keep s mesh steps old new lead kept.0 kept.1

pub returns-clause-stamps : goal.returns-clause-stamps
returns-clause-stamps c = λ s net sound lane. accepted_once s net sound lane

pub returns-clause-once : goal.returns-clause-once
returns-clause-once c = λ s net sound cut lane k there owned alone. cut_once s net sound cut lane k there owned alone
