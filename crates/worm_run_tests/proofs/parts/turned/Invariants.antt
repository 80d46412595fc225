use Rattle.worm_split.specs.PartState.{IsSamePart}
use Rattle.worm_run_tests.proofs.parts.turned.Given as goal

abbrev pub invariant-loop-turn : goal.invariant-loop-turn
invariant-loop-turn g l = IsSamePart l.fn.part l.part
