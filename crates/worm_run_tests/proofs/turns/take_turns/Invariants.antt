use Rattle.std.proofs.Common.{◌≡◌, vec_len}
use Rattle.worm_split.specs.Joins.{AreParts}
use Rattle.worm_run_tests.proofs.turns.take_turns.Given as goal

abbrev pub invariant-loop-turn : goal.invariant-loop-turn
invariant-loop-turn g l = AreParts l.parts.items × (vec_len l.parts ≡ vec_len l.fn.parts)
