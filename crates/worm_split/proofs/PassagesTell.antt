-- What is told of two networks and of a fault between them, if it holds where nothing is done and is handed on from
-- each passage to the next, holds of passages one after another, of a network or of a part.
use Rattle.std.proofs.Common.{◌≡◌, ℕ, inl, inr, List, [], ◌∷◌, Option, None, sym, subst, ap}
use Rattle.worm_swalloc.specs.declared.grant.SwGrant.{SwGrant}
use Rattle.worm_region.specs.State.{NetState}
use Rattle.worm_region.specs.Turns.{Passage, PassageOf, ◌and_then◌, Each}
use Rattle.worm_region.specs.declared.fault.StepFault.{StepFault}
use Rattle.worm_split.specs.PartState.{PartState}
use Rattle.worm_split.specs.PartTurns.{PartPassage, Sends, SendsGrant, SendsGrants}

-- each of its passages is told so of the networks in its states
abbrev TellsBy : {S : Type 0} → (S → NetState) → Passage → PassageOf S → Type 0
TellsBy {S} net R P = (old new : S) (fault : Option StepFault) → P old fault new → R (net old) fault (net new)

abbrev pub Tells : Passage → Passage → Type 0
Tells = TellsBy (λ s. s)

abbrev pub TellsOf : Passage → PartPassage → Type 0
TellsOf = TellsBy (λ (p : PartState). p.net)

module _ (R : Passage) (at_rest : (s : NetState) → R s None s)
    (on : (a b c : NetState) (fault : Option StepFault) → R a None b → R b fault c → R a fault c) where
  then_by : {S : Type 0} (net : S → NetState) (P Q : PassageOf S) → TellsBy net R P → TellsBy net R Q
      → TellsBy net R (P and_then Q)
  then_by net P Q one two old new fault made = elim made [
    | inl ended ↦ one old new fault ended.1
    | inr more ↦
        on (net old) (net more.0) (net new) fault (one old more.0 None more.1) (two more.0 new fault more.2)
  ]

  rests_so : (old new : NetState) (fault : Option StepFault) → fault ≡ None → new ≡ old → R old fault new
  rests_so old new fault none same =
      subst (λ (f : Option StepFault). R old f new) (sym none)
      (subst (λ (s : NetState). R old None s) (sym same) (at_rest old))

  each_by : {S A : Type 0} (net : S → NetState) (P : A → PassageOf S) → ((a : A) → TellsBy net R (P a))
      → (list : List A) → TellsBy net R (Each P list)
  each_by net P here [] old new fault made = rests_so (net old) (net new) fault made.0 (ap net made.1)
  each_by net P here (a ∷ list) old new fault made =
      then_by net (P a) (Each P list) (here a) (each_by net P here list) old new fault made

  pub then_tells : (P Q : Passage) → Tells R P → Tells R Q → Tells R (P and_then Q)
  then_tells = then_by (λ s. s)

  pub each_tells : {A : Type 0} (P : A → Passage) → ((a : A) → Tells R (P a)) → (list : List A) → Tells R (Each P list)
  each_tells = each_by (λ s. s)

  pub then_tells_of : (P Q : PartPassage) → TellsOf R P → TellsOf R Q → TellsOf R (P and_then Q)
  then_tells_of = then_by (λ (p : PartState). p.net)

  pub each_tells_of : {A : Type 0} (P : A → PartPassage) → ((a : A) → TellsOf R (P a)) → (list : List A) →
      TellsOf R (Each P list)
  each_tells_of = each_by (λ (p : PartState). p.net)

  -- of Sends, whichever channels were granted
  pub sends_tell : (x : ℕ) → ((p v : ℕ) → TellsOf R (Sends x p v)) → (grants : List (Option SwGrant)) →
      TellsOf R (SendsGrants grants x)
  sends_tell x each grants old new fault made =
      each_tells_of (SendsGrant grants x)
      (λ p. each_tells_of (λ (g : SwGrant). Sends x p g.vc) (λ g. each p g.vc) _) _ old new fault made
