use Rattle.std.proofs.Common.{arith}
use Rattle.std.proofs.lemmas.Grind.{common_steps}
use Rattle.worm_flit.proofs.channels.are_channels.Goals as goal

pub returns : goal.returns
returns c = grind (arith, common_steps)
