use Rattle.std.proofs.Common.{sym, ◌∙◌}
use Rattle.worm_router.proofs.Resting.{unready}
use Rattle.worm_router.proofs.router.Router.sends_nothing.Goals as goal

pub returns-clause-nothing : goal.returns-clause-nothing
returns-clause-nothing c = λ yes. (unready _ c.args.self.now _ _ _ c.ready.result c.self.view_is c.self.invariant
    c.ready.ensures (sym c.is_empty.ensures ∙ yes)).sends

pub returns-clause-chooses : goal.returns-clause-chooses
returns-clause-chooses c = λ yes. (unready _ c.args.self.now _ _ _ c.ready.result c.self.view_is c.self.invariant
    c.ready.ensures (sym c.is_empty.ensures ∙ yes)).chooses

pub returns-clause-grants : goal.returns-clause-grants
returns-clause-grants c = λ yes. (unready _ c.args.self.now _ _ _ c.ready.result c.self.view_is c.self.invariant
    c.ready.ensures (sym c.is_empty.ensures ∙ yes)).grants
