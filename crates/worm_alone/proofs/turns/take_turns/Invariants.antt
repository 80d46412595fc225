use Rattle.std.proofs.Common.{None}
use Rattle.worm_region.specs.Turns.{Turns}
use Rattle.worm_alone.proofs.turns.take_turns.Given as goal

abbrev pub invariant-loop-turn : goal.invariant-loop-turn
invariant-loop-turn l = Turns l.script l.turn l.initial.net None l.net
