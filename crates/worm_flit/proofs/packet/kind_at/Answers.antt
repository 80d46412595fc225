use Rattle.std.proofs.Common.{rules}
use Rattle.worm_flit.proofs.packet.kind_at.Goals as goal

pub returns-then-i-eq0 : goal.returns-then-i-eq0
returns-then-i-eq0 c = search rules
