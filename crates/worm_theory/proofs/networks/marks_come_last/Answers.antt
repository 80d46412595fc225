use Rattle.worm_theory.proofs.Marks.{mark_is_accepted_last, mark_is_last, nothing_more}
use Rattle.worm_theory.proofs.Closed.{step_closed, steps_closed}
use Rattle.worm_theory.proofs.networks.marks_come_last.Goals as goal

pub returns-clause-accepted : goal.returns-clause-accepted
returns-clause-accepted c = λ s net sound lane before m rest e marked.
    mark_is_accepted_last s net sound lane before m rest e marked

pub returns-clause-delivered : goal.returns-clause-delivered
returns-clause-delivered c = λ s net sound cut lane k there owned alone before m rest e marked.
    mark_is_last s net sound cut lane k there owned alone before m rest e marked

pub returns-clause-for_good : goal.returns-clause-for_good
returns-clause-for_good c = λ s steps old new mesh sound cut lead lane k there owned alone marked.
    nothing_more s mesh steps old new lead sound cut lane k there owned alone marked

pub returns-clause-step : goal.returns-clause-step
returns-clause-step c = λ s net step _ enabled ones. step_closed s net step enabled ones

pub returns-clause-steps : goal.returns-clause-steps
returns-clause-steps c = λ s. steps_closed s
