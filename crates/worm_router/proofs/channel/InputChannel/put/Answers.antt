use Rattle.std.proofs.Common.{rules}
use Rattle.worm_router.proofs.channel.InputChannel.put.Goals as goal

pub returns-clause-after : goal.returns-clause-after
returns-clause-after c = search rules
