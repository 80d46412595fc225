use Rattle.std.proofs.Common.{subst}
use Rattle.worm_router.specs.Router.{RouterState}
use Rattle.worm_router.specs.Busy.{IsSetOf, is_occupied}
use Rattle.worm_router.proofs.Resting.{unrouted_set}
use Rattle.worm_router.proofs.router.Router.unrouted.Goals as goal

pub returns : goal.returns
returns c =
    unrouted_set c.args.self.now c.self.view_is c.self.invariant.busy.few_ports c.self.invariant.busy.few_channels
    (subst (λ (r : RouterState). IsSetOf is_occupied r c.self.inside.busy.occupied) c.self.view_is
    c.self.invariant.busy.occupied) c.waiting.ensures c.active.ensures c.difference.result c.difference-2.result
    c.difference.ensures c.difference-2.ensures
