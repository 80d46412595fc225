-- The steps of the code as steps of the theory, and what a run of them is.
use Rattle.std.specs.Prelude.{ℕ, ◌≡◌, List, [], ◌∷◌, length, take, map, slice_get}
use Rattle.std.specs.Prelude.{Option, Some, None, MatchOption, Ok, Err}
use Rattle.worm_theory.specs.Steps.{StepsLead, Step as Event, Offer as OfferEvent, CloseLane as CloseEvent}
use Rattle.worm_theory.specs.Steps.{Feed as FeedEvent, Route as RouteEvent, Grant as GrantEvent, Send as SendEvent}
use Rattle.worm_theory.specs.Steps.{Take as TakeEvent, GiveCredit as GiveEvent, TakeCredit as GetEvent}
use Rattle.worm_region.specs.declared.step.Step.{Step}
use Rattle.worm_region.specs.declared.step.Step.TheVariants.{Offer, Close, Feed, Route, Grant, Send, Take, GiveCredit}
use Rattle.worm_region.specs.declared.step.Step.TheVariants.{TakeCredit}
use Rattle.worm_region.specs.declared.step.Moved.{Moved}
use Rattle.worm_region.specs.declared.fault.StepFault.{StepFault}
use Rattle.worm_region.specs.State.{NetState, IsSameConfig, shape, network_of}
use Rattle.worm_region.specs.Answers.{Answers}

abbrev pub event_of : Step → Event
event_of (Offer x packet) = OfferEvent x packet.lane packet.words
event_of (Close x lane) = CloseEvent x lane
event_of (Feed x k) = FeedEvent x k
event_of (Route x p v) = RouteEvent x p v
event_of (Grant x p v c) = GrantEvent x p v c
event_of (Send x p v) = SendEvent x p v
event_of (Take x p) = TakeEvent x p
event_of (GiveCredit x p v) = GiveEvent x p v
event_of (TakeCredit x o) = GetEvent x o

-- the first n of the steps lead from the old network to the new, in the theory's words
pub record IsRun (old new : NetState) (steps : List Step) (n : ℕ) : Type 0 where
  pub led : StepsLead (shape old) (network_of old) (map event_of (take n steps)) (network_of new)
  pub config : IsSameConfig old new

-- each of the steps is answered Ok, on the network that those before it left
abbrev pub AreAnswered : NetState → List Step → NetState → Type 0
AreAnswered old [] new = new ≡ old
AreAnswered old (step ∷ steps) new =
    (mid : NetState) × (moved : Moved) × Answers old (event_of step) (Ok moved) mid × AreAnswered mid steps new

-- With a fault there is a step behind the first n, and the fault is its answer on the network that is left, which it
-- does not change; without one there is none.
abbrev pub StopsBehind : ℕ → List Step → Option StepFault → NetState → Type 0
StopsBehind n steps None left = n ≡ length steps
StopsBehind n steps (Some fault) left =
    MatchOption (slice_get steps n) ⊥ (λ step. Answers left (event_of step) (Err fault) left)
