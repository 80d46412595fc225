-- A turn is never ended by a step whose place is not there: such a step is passed over.
use Rattle.std.proofs.Common.{◌≡◌, ℕ, inl, inr, List, Option, Some, None, Result, Ok, Err, sym, ◌∙◌}
use Rattle.worm_theory.specs.Steps.{Step, Send, GiveCredit}
use Rattle.worm_region.specs.Replies.{Attempts}
use Rattle.worm_region.specs.State.{NetState}
use Rattle.worm_region.specs.Turns.{Passage, AsksSourceBy, ComesInBy, TakesCreditsBy, TakesFlitsBy, FeedsClassesBy}
use Rattle.worm_region.specs.Turns.{RoutesPortBy, Allocates, fault_of}
use Rattle.worm_script.specs.declared.entry.Entry.{Entry}
use Rattle.worm_region.specs.declared.step.Moved.{Moved}
use Rattle.worm_region.specs.declared.fault.StepFault.{StepFault}
use Rattle.worm_region.specs.declared.fault.StepFault.TheVariants.{NoSuchPlace, Refused, NoMemory}
use Rattle.worm_split.specs.PartState.{PartState}
use Rattle.worm_split.specs.PartTurns.{Within, SendsGranted, Sends, GivesCredit, Gives, NodeTurn, Turn}
use Rattle.worm_split.specs.PartTurns.{PullsCredit, PullsCredits, PullsFlit, PullsFlits}
use Rattle.worm_split.proofs.PassagesTell.{Tells, TellsOf, then_tells, each_tells, then_tells_of, each_tells_of}
use Rattle.worm_split.proofs.PassagesTell.{sends_tell}

abbrev Placed : Passage
Placed old fault new = fault ≡ Some NoSuchPlace → ⊥

at_rest : (s : NetState) → Placed s None s
at_rest s same = absurd (cc)

on : (a b c : NetState) (fault : Option StepFault) → Placed a None b → Placed b fault c → Placed a fault c
on a b c fault first then = then

no_fault : (old new : NetState) (fault : Option StepFault) → fault ≡ None → Placed old fault new
no_fault old new fault none same = absurd (cc)

of_answer : (answer : Result Moved StepFault) → fault_of answer ≡ Some NoSuchPlace → ⊥
of_answer (Ok moved) same = absurd (cc)
of_answer (Err NoSuchPlace) same = absurd (cc)
of_answer (Err (Refused why)) same = absurd (cc)
of_answer (Err NoMemory) same = absurd (cc)

tried : (step : Step) → Tells Placed (Attempts step)
tried step old new fault made same = of_answer made.0 (sym made.2 ∙ same)

comes_in : (x : ℕ) → Tells Placed (ComesInBy Attempts x)
comes_in x =
    let then = then_tells Placed at_rest on in
    then (TakesCreditsBy Attempts x) _ (λ old. each_tells Placed at_rest on Attempts tried _ old)
    (then (TakesFlitsBy Attempts x) _ (λ old. each_tells Placed at_rest on Attempts tried _ old)
    (then (FeedsClassesBy Attempts x) _ (λ old. each_tells Placed at_rest on Attempts tried _ old)
    (λ old. each_tells Placed at_rest on (RoutesPortBy Attempts x)
    (λ p mid. each_tells Placed at_rest on Attempts tried _ mid) _ old)))

within : (P : Passage) → Tells Placed P → TellsOf Placed (Within P)
within P told old new fault made = told old.net new.net fault made.0

sends : (x p v : ℕ) → TellsOf Placed (Sends x p v)
sends x p v old new fault made = elim made [
  | inl across ↦ no_fault old.net new.net fault across.0
  | inr inside ↦ within (Attempts (Send x p v)) (tried (Send x p v)) old new fault inside.1
]

gives : (x p v : ℕ) → TellsOf Placed (Gives x p v)
gives x p v old new fault made = elim made [
  | inl across ↦ no_fault old.net new.net fault across.0
  | inr inside ↦ within (Attempts (GiveCredit x p v)) (tried (GiveCredit x p v)) old new fault inside.1
]

node_turn : (entries : List Entry) (x : ℕ) → TellsOf Placed (NodeTurn entries x)
node_turn entries x =
    let then = then_tells_of Placed at_rest on in
    then (Within (AsksSourceBy Attempts entries x)) _
    (within (AsksSourceBy Attempts entries x) (λ old. each_tells Placed at_rest on Attempts tried _ old))
    (then (PullsCredits x) _
    (λ old. each_tells_of Placed at_rest on (PullsCredit x)
    (λ o a b fault made. no_fault a.net b.net fault made.0) _ old)
    (then (PullsFlits x) _
    (λ old. each_tells_of Placed at_rest on (PullsFlit x) (λ p a b fault made. no_fault a.net b.net fault made.0) _ old)
    (then (Within (ComesInBy Attempts x)) _ (within (ComesInBy Attempts x) (comes_in x))
    (then (Within (Allocates x)) _ (within (Allocates x) (λ old new fault made. no_fault old new fault made.0))
    (then (SendsGranted x) _
    (λ old new fault made. sends_tell Placed at_rest on x (sends x) _ _ new fault made)
    (λ old. each_tells_of Placed at_rest on (GivesCredit x)
    (λ p mid. each_tells_of Placed at_rest on (Gives x p) (gives x p) _ mid) _ old))))))

pub turn_place : (entries : List Entry) (old new : PartState) (fault : Option StepFault) → Turn entries old fault new →
    fault ≡ Some NoSuchPlace → ⊥
turn_place entries old new fault made =
    each_tells_of Placed at_rest on (NodeTurn entries) (node_turn entries) _ old new fault made
