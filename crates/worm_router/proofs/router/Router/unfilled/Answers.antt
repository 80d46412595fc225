use Rattle.std.proofs.Common.{◌≡◌, ◌&&◌, Bool, true, false, not, sym, subst, refl, ◌∙◌}
use Rattle.worm_router.specs.Router.{RouterState}
use Rattle.worm_router.specs.Busy.{AreFull}
use Rattle.worm_router.proofs.router.Router.unfilled.Goals as goal

-- what is in the first set and not in the other is in the first
first : (a b : Bool) → (a && not b) ≡ true → a ≡ true
first true b there = refl
first false b there = absurd (cc)

-- what is in the first set alone and is not left is in the other
second : (a b : Bool) → a ≡ true → (a && not b) ≡ false → b ≡ true
second true true there gone = refl
second true false there gone = absurd (cc)
second false b there gone = absurd (cc)

pub returns-clause-within : goal.returns-clause-within
returns-clause-within c = λ class within there. first _ _ (sym (c.difference.ensures class within) ∙ there)

pub returns-clause-full : goal.returns-clause-full
returns-clause-full c = λ class within there gone.
    subst (λ (r : RouterState). AreFull r c.self.inside.busy.full) c.self.view_is c.self.invariant.full class within
    (second _ _ there (sym (c.difference.ensures class within) ∙ gone))
