-- What an answer to a step means, in the theory's words.
use Rattle.std.specs.Prelude.{ℕ, ◌≡◌, Bool, true, false, Option, Some, None, Result, Ok, Err}
use Rattle.worm_term.specs.declared.fault.OfferFault.{OfferFault}
use Rattle.worm_term.specs.declared.fault.OfferFault.TheVariants.{WrongSource, NoSuchNode, NoSuchClass, ManyChannels}
use Rattle.worm_term.specs.declared.fault.OfferFault.TheVariants.{LaneClosed, LaneFull, NoMemory as NoRoom}
use Rattle.worm_term.specs.Source.{refusal}
use Rattle.worm_theory.specs.Network.{Network}
use Rattle.worm_theory.specs.Shape.{Shape}
use Rattle.worm_theory.specs.Steps.{Step, Offer, CloseLane, Feed, Route, Grant, Send, Take, GiveCredit, TakeCredit}
use Rattle.worm_theory.specs.Steps.{IsThere, IsActiveAt, Enabled, after}
use Rattle.worm_region.specs.State.{NetState, IsSameConfig, shape, network_of, router_at, source_at}
use Rattle.worm_region.specs.Moves.{done_step}
use Rattle.worm_region.specs.declared.step.Moved.{Moved}
use Rattle.worm_region.specs.declared.step.Moved.TheVariants.{Done, Idle}
use Rattle.worm_region.specs.declared.fault.StepFault.{StepFault}
use Rattle.worm_region.specs.declared.fault.StepFault.TheVariants.{NoSuchPlace, Refused, NoMemory}

-- why the node's source refuses what it is asked, memory aside
abbrev pub refusal_of : NetState → Step → Option OfferFault
refusal_of s (Offer x lane words) = refusal (source_at s x) lane false
refusal_of s (CloseLane x lane) = refusal (source_at s x) lane true
refusal_of s (Feed x k) = None
refusal_of s (Route x p v) = None
refusal_of s (Grant x p v c) = None
refusal_of s (Send x p v) = None
refusal_of s (Take x p) = None
refusal_of s (GiveCredit x p v) = None
refusal_of s (TakeCredit x o) = None

-- the step asks a source
abbrev pub AsksSource : Step → Type 0
AsksSource (Offer x lane words) = Unit {0}
AsksSource (CloseLane x lane) = Unit {0}
AsksSource (Feed x k) = ⊥
AsksSource (Route x p v) = ⊥
AsksSource (Grant x p v c) = ⊥
AsksSource (Send x p v) = ⊥
AsksSource (Take x p) = ⊥
AsksSource (GiveCredit x p v) = ⊥
AsksSource (TakeCredit x o) = ⊥

-- the step makes a source's or a sink's list longer
abbrev pub Grows : Shape → Network → Step → Type 0
Grows s net (Offer x lane words) = Unit {0}
Grows s net (CloseLane x lane) = Unit {0}
Grows s net (Feed x k) = ⊥
Grows s net (Route x p v) = ⊥
Grows s net (Grant x p v c) = ⊥
Grows s net (Send x p v) = IsActiveAt (net.in_record x p v) (λ o c. o ≡ s.terminal)
Grows s net (Take x p) = ⊥
Grows s net (GiveCredit x p v) = ⊥
Grows s net (TakeCredit x o) = ⊥

-- the step is there and enabled, and done: to the lists, and so to what they stand for
pub record IsDone (old : NetState) (step : Step) (new : NetState) : Type 0 where
  pub there : IsThere (shape old) step
  pub enabled : Enabled (shape old) (network_of old) step
  pub after_it : network_of new ≡ after (shape old) (network_of old) step
  pub config : IsSameConfig old new
  pub exact : new ≡ done_step old step

-- Done where the step's place is there and it is enabled, and the network is then the theory's; Idle where the place is
-- there, the step is not enabled and no source refused; and a fault says which of these it was. All but Done change
-- nothing.
abbrev pub Answers : NetState → Step → Result Moved StepFault → NetState → Type 0
Answers old step (Ok Done) new = IsDone old step new
Answers old step (Ok Idle) new = IsThere (shape old) step × (Enabled (shape old) (network_of old) step → ⊥)
    × (refusal_of old step ≡ None) × (new ≡ old)
Answers old step (Err NoSuchPlace) new = (IsThere (shape old) step → ⊥) × (new ≡ old)
Answers old step (Err (Refused fault)) new =
    IsThere (shape old) step × (Enabled (shape old) (network_of old) step → ⊥) × (refusal_of old step ≡ Some fault)
    × (new ≡ old)
Answers old step (Err NoMemory) new = IsThere (shape old) step × Enabled (shape old) (network_of old) step
    × Grows (shape old) (network_of old) step × (new ≡ old)

abbrev pub moved_of : Bool → Moved
moved_of true = Done
moved_of false = Idle

-- what a source's answer is as that of a step
abbrev pub accepted_of : Result ℕ OfferFault → Result Moved StepFault
accepted_of (Ok number) = Ok Done
accepted_of (Err WrongSource) = Err (Refused WrongSource)
accepted_of (Err NoSuchNode) = Err (Refused NoSuchNode)
accepted_of (Err NoSuchClass) = Err (Refused NoSuchClass)
accepted_of (Err LaneClosed) = Err (Refused LaneClosed)
accepted_of (Err LaneFull) = Err (Refused LaneFull)
accepted_of (Err NoRoom) = Err NoMemory
accepted_of (Err ManyChannels) = Err (Refused ManyChannels)

-- no arbiter of any router has moved
abbrev pub ArbitersStand : NetState → NetState → Type 0
ArbitersStand old new =
    (x : ℕ) → ((router_at new x).channel_alloc ≡ (router_at old x).channel_alloc)
    × ((router_at new x).switch_alloc ≡ (router_at old x).switch_alloc)
