use Rattle.std.proofs.Common.{rules}
use Rattle.worm_router.proofs.busy.BusyChannels.forget_full.Goals as goal

pub returns : goal.returns
returns c = search rules
