use Rattle.std.proofs.Common.{rules}
use Rattle.worm_router.proofs.channel.InputChannel.let_out.Goals as goal

pub returns : goal.returns
returns c = search rules
