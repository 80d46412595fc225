use Rattle.std.proofs.Common.{◌≡◌, Bool, true, false, None, Some, ap, sym, ◌∙◌, cond, refl}
use Rattle.std.specs.Bool.{then_some}
use Rattle.worm_swalloc.specs.declared.grant.SwGrant.{SwGrant}
use Rattle.worm_swalloc.specs.SwAlloc.{if_in}
use Rattle.worm_swalloc.proofs.GrantsOfSet.{grant_at}
use Rattle.worm_swalloc.proofs.grant.SwMatching.get.Goals as goal

pub returns-in_err-request : goal.returns-in_err-request
returns-in_err-request c =
    rw (← c.self.view_is)
    (c.from_residual.ensures ∙ sym (grant_at c.self.inside.requests c.self.inside.granted c.args.port c.requires
    ∙ ap (if_in c.self.inside.granted c.args.port) c.in_err-request.was))

by_test : (b : Bool) (g : SwGrant) → then_some b g ≡ cond b (Some g) None
by_test true g = refl
by_test false g = refl

pub returns : goal.returns
returns c =
    rw (← c.self.view_is)
    (c.then_some.ensures ∙ by_test c.contains.result c.in_ok-request.request
    ∙ ap (λ b. cond b (Some c.in_ok-request.request) None) c.contains.ensures
    ∙ sym (grant_at c.self.inside.requests c.self.inside.granted c.args.port c.requires
    ∙ ap (if_in c.self.inside.granted c.args.port) c.in_ok-request.was))
