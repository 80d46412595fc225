use Rattle.std.proofs.Common.{◌≡◌, vec_len}
use Rattle.worm_split.specs.Joins.{AreParts}
use Rattle.worm_run_tests.proofs.channels.all_take.Given as goal

abbrev pub invariant-loop-worker : goal.invariant-loop-worker
invariant-loop-worker g l = AreParts l.parts.items × (vec_len l.parts ≡ vec_len l.fn.parts)
