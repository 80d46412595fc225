use Rattle.std.proofs.Common.{rules}
use Rattle.worm_flit.proofs.channels.ClassChannels.owns.Goals as goal

pub returns-then-first-channel : goal.returns-then-first-channel
returns-then-first-channel c = search rules
