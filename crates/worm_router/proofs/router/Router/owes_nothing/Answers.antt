use Rattle.std.proofs.Common.{sym, ◌∙◌}
use Rattle.worm_router.proofs.Resting.{owes_none}
use Rattle.worm_router.proofs.router.Router.owes_nothing.Goals as goal

pub returns : goal.returns
returns c = λ yes. owes_none c.args.self.now c.owing.result c.owing.ensures.owing (sym c.is_empty.ensures ∙ yes)
