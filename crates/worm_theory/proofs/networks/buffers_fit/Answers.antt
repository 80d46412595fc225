use Rattle.worm_theory.proofs.Credit.{links_fit}
use Rattle.worm_theory.proofs.networks.buffers_fit.Goals as goal

pub returns-clause-buffers : goal.returns-clause-buffers
returns-clause-buffers c = λ s net sound. sound.fits

pub returns-clause-links : goal.returns-clause-links
returns-clause-links c = λ s net sound. links_fit s net sound.credits
