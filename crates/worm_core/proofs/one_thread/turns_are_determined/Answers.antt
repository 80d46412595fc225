use Rattle.worm_region.proofs.NewNet.{fresh_one}
use Rattle.worm_core.proofs.one_thread.turns_are_determined.Goals as goal

pub returns-clause-opening : goal.returns-clause-opening
returns-clause-opening c = fresh_one
