use Rattle.std.proofs.Common.{rules}
use Rattle.worm_router.proofs.router.Router.line.Goals as goal

pub returns-clause-value : goal.returns-clause-value
returns-clause-value c = search rules

pub returns-clause-in_inputs : goal.returns-clause-in_inputs
returns-clause-in_inputs c = search rules

pub returns-clause-in_outputs : goal.returns-clause-in_outputs
returns-clause-in_outputs c = search rules
