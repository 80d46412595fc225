use Rattle.std.proofs.Common.{rules}
use Rattle.worm_router.proofs.router.spend.Goals as goal

pub spend_credit-requires : goal.spend_credit-requires
spend_credit-requires c = search rules
