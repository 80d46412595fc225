use Rattle.std.proofs.Common.{sym, ◌∙◌}
use Rattle.worm_vcalloc.proofs.SetMembers.{has-empty}
use Rattle.worm_router.specs.Router.{input_at}
use Rattle.worm_router.proofs.Resting.{routes_none}
use Rattle.worm_router.proofs.router.Router.routes_nothing.Goals as goal

pub returns : goal.returns
returns c = λ yes p v p_few v_few p_in v_in.
    routes_none (input_at c.args.self.now p v)
    (sym (c.unrouted.ensures.inside p v p_in v_in)
    ∙ has-empty c.unrouted.result p v (sym c.is_empty.ensures ∙ yes))
