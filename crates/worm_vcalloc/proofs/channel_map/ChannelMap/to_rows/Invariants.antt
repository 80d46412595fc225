use Rattle.std.proofs.Common.{None}
use Rattle.worm_vcalloc.proofs.RowsCopied.{IsCopied}
use Rattle.worm_vcalloc.proofs.channel_map.ChannelMap.to_rows.Given as goal

abbrev pub invariant-loop-place : goal.invariant-loop-place
invariant-loop-place l = IsCopied None l.self l.rows l.place
