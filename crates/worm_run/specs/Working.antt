-- What a worker does with its part: turn after turn, till all are taken or it is stopped.
use Rattle.std.specs.Prelude.{◌≡◌, ℕ, ◌+◌, ◌<◌, ◌≤◌, nat_lt, true, List, [], ◌∷◌, ◌++◌, length, filter, Option, None}
use Rattle.std.specs.Prelude.{Some}
use Rattle.std.specs.List.{range_with_len}
use Rattle.worm_flit.specs.declared.Flit.{Flit}
use Rattle.worm_mesh.specs.Address.{node_count}
use Rattle.worm_script.specs.Script.{begun_at, due}
use Rattle.worm_region.specs.State.{source_at, sink_at}
use Rattle.worm_region.specs.Workable.{owned}
use Rattle.worm_script.specs.declared.entry.Entry.{Entry}
use Rattle.worm_region.specs.declared.fault.StepFault.{StepFault}
use Rattle.worm_region.specs.Turns.{Each}
use Rattle.worm_split.specs.PartState.{PartState, IsSamePart}
use Rattle.worm_split.specs.PartTurns.{PartPassage, Turn}
use Rattle.worm_split.specs.Stops.{fault_behind}
use Rattle.worm_split.specs.Effects.{HasAccepted, SourcesTake, SinksTakeOne, IsRefused}
use Rattle.worm_run.specs.declared.plan.Stop.{Stop}
use Rattle.worm_split.specs.declared.stop.StopWhy.{StopWhy}
use Rattle.worm_split.specs.declared.stop.StopWhy.TheVariants.{Gate, NoMemory as OutOfMemory, Refused as WasRefused}
use Rattle.worm_run.specs.declared.working.Worked.{Worked}

-- the entries of the turns below a number, in script order
abbrev pub due_before : ℕ → List Entry → List Entry
due_before turn script = filter (λ (e : Entry). nat_lt e.turn turn) script

-- so many flits came at most
abbrev pub GrewBy : ℕ → List Flit → List Flit → Type 0
GrewBy n old new = (more : List Flit) × (new ≡ old ++ more) × (length more ≤ n)

-- the turns below a number, one after another, each with its entries of the script
unfoldable pub Turns : List Entry → ℕ → PartPassage
Turns script n = Each (λ t. Turn (due t script)) (range_with_len 0 n)

-- The part took its turns below n: each source of its nodes accepted the entries of those turns that begin there, in
-- script order, and each sink grew by at most n flits.
pub record HasTurned (script : List Entry) (n : ℕ) (old new : PartState) : Type 0 where
  pub exact : Turns script n old None new
  pub same : IsSamePart old new
  pub sources : (x : ℕ) → x < node_count old.net.mesh → owned old.net x ≡ true →
      HasAccepted (source_at old.net x) (begun_at x (due_before n script)) (source_at new.net x)
  pub sinks : (x : ℕ) → x < node_count old.net.mesh → owned old.net x ≡ true →
      GrewBy n (sink_at old.net x).delivered (sink_at new.net x).delivered

-- a turn with these entries was stopped by this fault
pub record IsStopped (entries : List Entry) (fault : StepFault) (old new : PartState) : Type 0 where
  pub exact : Turn entries old (Some fault) new
  pub same : IsSamePart old new
  pub sources : SourcesTake entries old (Some fault) new
  pub sinks : SinksTakeOne old new
  pub refused : IsRefused entries old (Some fault) new

-- the turns below `ended` were taken, and of the next what there was before the fault, if one stopped it
abbrev pub EndsIn : List Entry → ℕ → Option StepFault → PartState → PartState → Type 0
EndsIn script ended None old new = HasTurned script ended old new
EndsIn script ended (Some fault) old new =
    (mid : PartState) × HasTurned script ended old mid × IsStopped (due ended script) fault mid new

-- all turns were taken, or fewer, with this reason; a gate may be the reason only where it may answer false
abbrev pub StopsAs : (ℕ → ℕ → Type 0) → ℕ → ℕ → ℕ → Option StopWhy → Type 0
StopsAs may turns worker ended None = ended ≡ turns
StopsAs may turns worker ended (Some Gate) = (ended < turns) × may worker ended
StopsAs may turns worker ended (Some OutOfMemory) = ended < turns
StopsAs may turns worker ended (Some (WasRefused why)) = ended < turns

-- how many turns a worker began: one more than it ended where a fault stopped it; a gate stops before a turn
abbrev pub turns_begun : ℕ → Option StopWhy → ℕ
turns_begun ended None = ended
turns_begun ended (Some Gate) = ended
turns_begun ended (Some OutOfMemory) = ended + 1
turns_begun ended (Some (WasRefused why)) = ended + 1

-- a gate may let the worker take each turn below a number
abbrev pub MayPassBelow : (ℕ → ℕ → Type 0) → ℕ → ℕ → Type 0
MayPassBelow may_pass worker n = (turn : ℕ) → turn < n → may_pass worker turn

abbrev pub fault_of_stop : Option StopWhy → Option StepFault
fault_of_stop None = None
fault_of_stop (Some why) = fault_behind why

-- what one worker did with its part, beginning no turn but where its gate may answer true
pub record WorkedAs (may_stop may_pass : ℕ → ℕ → Type 0) (script : List Entry) (turns worker : ℕ) (before : PartState)
    (w : Worked) : Type 0 where
  pub stops : StopsAs may_stop turns worker w.ended w.stop
  pub passed : MayPassBelow may_pass worker (turns_begun w.ended w.stop)
  pub ends : EndsIn script w.ended (fault_of_stop w.stop) before w.part

-- what the workers did, each with its part, from a first worker on
abbrev pub AllWorked : (may_stop may_pass : ℕ → ℕ → Type 0) → List Entry → ℕ → ℕ → List PartState → List Worked
    → Type 0
AllWorked may_stop may_pass script turns worker [] [] = Unit {0}
AllWorked may_stop may_pass script turns worker (p ∷ ps) (w ∷ ws) =
    WorkedAs may_stop may_pass script turns worker p w × AllWorked may_stop may_pass script turns (worker + 1) ps ws
AllWorked may_stop may_pass script turns worker [] (w ∷ ws) = ⊥
AllWorked may_stop may_pass script turns worker (p ∷ ps) [] = ⊥

-- the stop of one worker, if it has one
abbrev pub stop_of : ℕ → ℕ → Option StopWhy → List Stop
stop_of worker ended None = []
stop_of worker ended (Some why) = record { worker = worker; turn = ended; why = why } ∷ []
