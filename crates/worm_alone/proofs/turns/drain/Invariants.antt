use Rattle.std.proofs.Common.{◌-◌, Option}
use Rattle.worm_region.specs.State.{NetState}
use Rattle.worm_region.specs.Turns.{Drains}
use Rattle.worm_region.specs.declared.fault.StepFault.{StepFault}
use Rattle.worm_alone.proofs.turns.drain.Given as goal

abbrev pub invariant-loop-turn : goal.invariant-loop-turn
invariant-loop-turn l =
    (fault : Option StepFault) (new : NetState) → Drains (l.most - l.turn) l.net fault new
    → Drains l.most l.initial.net fault new
