-- Why a worker takes no further turn, and the fault that this is of a turn.
use Rattle.std.specs.Prelude.{◌≡◌, Option, Some, None, Result, Ok, Err}
use Rattle.worm_region.specs.declared.fault.StepFault.{StepFault}
use Rattle.worm_region.specs.declared.fault.StepFault.TheVariants.{Refused, NoMemory}
use Rattle.worm_split.specs.declared.stop.StopWhy.{StopWhy}
use Rattle.worm_split.specs.declared.stop.StopWhy.TheVariants.{Gate, NoMemory as OutOfMemory, Refused as WasRefused}

-- the fault that stopped a turn; a gate stops before a turn
abbrev pub fault_behind : StopWhy → Option StepFault
fault_behind Gate = None
fault_behind OutOfMemory = Some NoMemory
fault_behind (WasRefused why) = Some (Refused why)

-- the fault that ended a turn, by what the turn answers
abbrev pub fault_told : {A : Type 0} → Result A StopWhy → Option StepFault
fault_told (Ok done) = None
fault_told (Err why) = fault_behind why

-- a turn is stopped by what it met, and never by a gate, which is asked before
abbrev pub IsMet : StopWhy → Type 0
IsMet why = why ≡ Gate → ⊥
