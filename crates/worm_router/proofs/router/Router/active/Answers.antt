use Rattle.worm_router.proofs.HeldOuts.{active_set}
use Rattle.worm_router.proofs.router.Router.active.Goals as goal

pub returns : goal.returns
returns c = active_set _ c.args.self.now _ _ c.self.view_is c.self.invariant.busy.few_ports
    c.self.invariant.busy.few_channels c.self.invariant.outs c.keys.ensures
