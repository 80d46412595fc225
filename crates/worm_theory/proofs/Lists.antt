-- What each step keeps, any list of steps keeps.
use Rattle.std.proofs.Common.{◌≡◌, List, [], ◌∷◌, ◌++◌, inl, inr, sym, subst, ◌∙◌}
use Rattle.worm_theory.specs.Shape.{Shape}
use Rattle.worm_theory.specs.Network.{Network}
use Rattle.worm_theory.specs.Steps.{Step, StepsTo, StepsLead, EachStepKeeps, AnyStepsKeep}

pub any_list : (s : Shape) (Kept : Network → Type 0) → EachStepKeeps s Kept → AnyStepsKeep s Kept
any_list s Kept each [] old new lead kept = subst Kept (sym lead) kept
any_list s Kept each (step ∷ steps) old new lead kept =
    any_list s Kept each steps lead.0 new lead.2
    (elim lead.1 [
      | inl done ↦ subst Kept (sym done.2) (each old step done.0 done.1 kept)
      | inr idle ↦ subst Kept (sym idle.1) kept
    ])

-- a step leads to one network alone
step_unique : (s : Shape) (old new other : Network) (step : Step) → StepsTo s old step new → StepsTo s old step other
    → new ≡ other
step_unique s old new other step h g =
    elim h [
      | inl done ↦ elim g [
        | inl done2 ↦ done.2 ∙ sym done2.2
        | inr idle2 ↦ absurd (idle2.0 (done.0, done.1))
      ]
      | inr idle ↦ elim g [
        | inl done2 ↦ absurd (idle.0 (done2.0, done2.1))
        | inr idle2 ↦ idle.1 ∙ sym idle2.1
      ]
    ]

pub steps_unique : (s : Shape) (steps : List Step) (old new other : Network) → StepsLead s old steps new
    → StepsLead s old steps other → new ≡ other
steps_unique s [] old new other h g = h ∙ sym g
steps_unique s (step ∷ steps) old new other h g =
    steps_unique s steps g.0 new other (subst (λ mid. StepsLead s mid steps new)
    (step_unique s old h.0 g.0 step h.1 g.1) h.2) g.2

-- the steps of two lists, one after another
pub steps-append : (s : Shape) (first then : List Step) (old mid new : Network) → StepsLead s old first mid
    → StepsLead s mid then new → StepsLead s old (first ++ then) new
steps-append s [] then old mid new h g = subst (λ net. StepsLead s net then new) h g
steps-append s (step ∷ steps) then old mid new h g = (h.0, h.1, steps-append s steps then h.0 mid new h.2 g)
