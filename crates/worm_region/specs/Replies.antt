-- What an answer to a step means in a region, where the way out of a node may be shut: as that of a network, but that
-- an enabled Send is idle where it is hindered.
use Rattle.std.specs.Prelude.{◌≡◌, Some, None, Result, Ok, Err}
use Rattle.worm_router.specs.Router.{leaving}
use Rattle.worm_theory.specs.Steps.{Step, Offer, CloseLane, Feed, Route, Grant, Send, Take, GiveCredit, TakeCredit}
use Rattle.worm_theory.specs.Steps.{IsThere, Enabled, after}
use Rattle.worm_region.specs.State.{NetState, IsFramed, IsSameConfig, shape, network_of, router_at}
use Rattle.worm_region.specs.Answers.{Grows, refusal_of}
use Rattle.worm_region.specs.Moves.{HasWay, done_step}
use Rattle.worm_region.specs.Turns.{Passage, fault_of}
use Rattle.worm_region.specs.declared.step.Moved.{Moved}
use Rattle.worm_region.specs.declared.step.Moved.TheVariants.{Done, Idle}
use Rattle.worm_region.specs.declared.fault.StepFault.{StepFault}
use Rattle.worm_region.specs.declared.fault.StepFault.TheVariants.{NoSuchPlace, Refused, NoMemory}

-- the flit that would leave for the sink is not at home
abbrev pub Hindered : NetState → Step → Type 0
Hindered s (Offer x lane words) = ⊥
Hindered s (CloseLane x lane) = ⊥
Hindered s (Feed x k) = ⊥
Hindered s (Route x p v) = ⊥
Hindered s (Grant x p v c) = ⊥
Hindered s (Send x p v) = HasWay s x (leaving (router_at s x) p v) → ⊥
Hindered s (Take x p) = ⊥
Hindered s (GiveCredit x p v) = ⊥
Hindered s (TakeCredit x o) = ⊥

-- the step is there and enabled, nothing hinders it, and it is done, and the lists have the shape that the
-- configuration asks for
pub record IsMade (old : NetState) (step : Step) (new : NetState) : Type 0 where
  pub there : IsThere (shape old) step
  pub enabled : Enabled (shape old) (network_of old) step
  pub free : Hindered old step → ⊥
  pub after_it : network_of new ≡ after (shape old) (network_of old) step
  pub config : IsSameConfig old new
  pub exact : new ≡ done_step old step
  pub framed : IsFramed new

abbrev pub Replies : NetState → Step → Result Moved StepFault → NetState → Type 0
Replies old step (Ok Done) new = IsMade old step new
Replies old step (Ok Idle) new =
    IsThere (shape old) step × (Enabled (shape old) (network_of old) step → Hindered old step)
    × (refusal_of old step ≡ None) × (new ≡ old)
Replies old step (Err NoSuchPlace) new = (IsThere (shape old) step → ⊥) × (new ≡ old)
Replies old step (Err (Refused fault)) new =
    IsThere (shape old) step × (Enabled (shape old) (network_of old) step → ⊥)
    × (refusal_of old step ≡ Some fault) × (new ≡ old)
Replies old step (Err NoMemory) new =
    IsThere (shape old) step × Enabled (shape old) (network_of old) step
    × Grows (shape old) (network_of old) step × (new ≡ old) × (Hindered old step → ⊥)

-- a step is tried in a region
abbrev pub Attempts : Step → Passage
Attempts step old fault new =
    (answer : Result Moved StepFault) × Replies old step answer new × (fault ≡ fault_of answer)
