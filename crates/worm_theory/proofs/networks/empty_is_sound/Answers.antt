use Rattle.worm_theory.proofs.Keeps.{empty_sound}
use Rattle.worm_theory.proofs.CutKeeps.{empty_cut}
use Rattle.worm_theory.proofs.PacketKeeps.{empty_packets}
use Rattle.worm_theory.proofs.Others.{empty_others}
use Rattle.worm_theory.proofs.Closed.{empty_closed}
use Rattle.worm_theory.proofs.networks.empty_is_sound.Goals as goal

pub returns-clause-sound : goal.returns-clause-sound
returns-clause-sound c = empty_sound

pub returns-clause-lanes : goal.returns-clause-lanes
returns-clause-lanes c = λ s mesh. empty_cut s mesh

pub returns-clause-packets : goal.returns-clause-packets
returns-clause-packets c = λ s mesh. empty_packets s mesh

pub returns-clause-others : goal.returns-clause-others
returns-clause-others c = empty_others

pub returns-clause-ones : goal.returns-clause-ones
returns-clause-ones c = empty_closed
