use Rattle.std.proofs.Common.{◌∙◌}
use Rattle.worm_router.proofs.ReadyOuts.{kept_leaves}
use Rattle.worm_router.proofs.router.Router.may_send.Goals as goal

pub returns : goal.returns
returns c =
    c.contains.ensures
    ∙ kept_leaves _ c.args.self.now _ _ _ c.ready.result c.args.port c.args.vc c.self.view_is c.self.invariant
    c.ready.ensures c.requires
