use Rattle.std.proofs.Common.{rules}
use Rattle.worm_flit.proofs.channels.ClassChannels.new.Goals as goal

pub loop-count-preserved : goal.loop-count-preserved
loop-count-preserved c = search rules
