use Rattle.worm_split.specs.Joins.{AreParts}
use Rattle.worm_run_tests.proofs.channels.all_take_turns.Given as goal

abbrev pub invariant-loop-turn : goal.invariant-loop-turn
invariant-loop-turn g l = AreParts l.parts.items
