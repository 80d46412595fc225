use Rattle.std.proofs.Common.{rules}
use Rattle.worm_text.specs.Traffic.{turn_at}
use Rattle.worm_text.proofs.traffic.turn.Goals as goal

pub returns : goal.returns
unfolding turn_at
returns c = search rules
