use Rattle.std.proofs.Common.{rules}
use Rattle.worm_router.proofs.channel.InputChannel.has_room.Goals as goal

pub returns : goal.returns
returns c = search rules
