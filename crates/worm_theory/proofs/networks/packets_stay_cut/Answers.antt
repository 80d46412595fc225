use Rattle.worm_theory.proofs.Keeps.{step_sound, steps_sound}
use Rattle.worm_theory.proofs.PacketKeeps.{step_packets, steps_packets}
use Rattle.worm_theory.proofs.ChannelLines.{channels_cut}
use Rattle.worm_theory.proofs.Histories.{packets_whole}
use Rattle.worm_theory.proofs.networks.packets_stay_cut.Goals as goal

pub returns-clause-step : goal.returns-clause-step
returns-clause-step c = λ s mesh net step there enabled kept. (
  step_sound s mesh net step there enabled kept.0,
  step_packets s mesh net kept.0 kept.1 step there,
)

pub returns-clause-steps : goal.returns-clause-steps
returns-clause-steps c = λ s mesh steps old new lead kept. (
  steps_sound s mesh steps old new lead kept.0,
  steps_packets s mesh steps old new lead kept.0 kept.1,
)

pub returns-clause-cut : goal.returns-clause-cut
returns-clause-cut c = λ s net mesh sound hold lane k there. channels_cut s mesh lane there k net sound hold

pub returns-clause-whole : goal.returns-clause-whole
returns-clause-whole c = λ s net sound lane k. packets_whole lane k net (sound.histories lane)
