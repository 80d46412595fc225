use Rattle.worm_theory.proofs.Moves.{move_holds, moves_hold}
use Rattle.worm_theory.proofs.parts.stays_in_parts.Goals as goal

pub returns-clause-step : goal.returns-clause-step
returns-clause-step c = λ s old parts step mesh hold there enabled. move_holds s mesh old parts hold step there enabled

pub returns-clause-steps : goal.returns-clause-steps
returns-clause-steps c = λ s old steps parts new mesh hold lead. moves_hold s mesh old steps parts new lead hold
