use Rattle.std.proofs.Common.{◌∙◌}
use Rattle.worm_router.proofs.Demanded.{waiting_set}
use Rattle.worm_router.proofs.router.Router.waiting.Goals as goal

pub returns : goal.returns
returns c = waiting_set _ c.args.self.now _ _ c.self.view_is c.self.invariant.busy.few_ports
    c.self.invariant.busy.few_channels c.self.invariant.fronts
    (c.requests.ensures ∙ c.self.invariant.demand.requests) c.waiting.ensures
