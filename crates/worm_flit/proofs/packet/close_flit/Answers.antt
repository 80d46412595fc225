use Rattle.std.proofs.Common.{rules}
use Rattle.worm_flit.proofs.packet.close_flit.Goals as goal

pub returns : goal.returns
returns c = search rules
