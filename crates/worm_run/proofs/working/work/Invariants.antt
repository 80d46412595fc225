use Rattle.worm_run.specs.Working.{HasTurned, MayPassBelow}
use Rattle.worm_run.proofs.working.work.Given as goal

abbrev pub invariant-loop-turn : goal.invariant-loop-turn
invariant-loop-turn g l = record {
  turned : HasTurned l.script l.turn l.fn.part l.part;
  passed : MayPassBelow (g.G.Gate.may_pass l.gate) l.worker l.turn;
}
