use Rattle.std.proofs.Common.{length}
use Rattle.worm_program.proofs.together.+stopped_turn.Given as goal

abbrev pub decreases-stopped_turn : goal.decreases-stopped_turn
decreases-stopped_turn l = length l.stops.now
