-- How a worker's turns end, and which its gate may have let it take.
use Rattle.std.proofs.Common.{◌≡◌, ℕ, ◌+◌, ◌<◌, Bool, true, inl, inr, List, Some, arith, refl, subst}
use Rattle.std.specs.Bool.{OnTrue}
use Rattle.std.proofs.lemmas.Bool.{cases_lt}
use Rattle.worm_script.specs.Script.{due}
use Rattle.worm_script.specs.declared.entry.Entry.{Entry}
use Rattle.worm_region.specs.declared.fault.StepFault.{StepFault}
use Rattle.worm_region.specs.declared.fault.StepFault.TheVariants.{NoMemory, Refused}
use Rattle.worm_split.specs.PartState.{PartState}
use Rattle.worm_split.specs.Stops.{IsMet, fault_behind}
use Rattle.worm_split.specs.declared.stop.StopWhy.{StopWhy}
use Rattle.worm_split.specs.declared.stop.StopWhy.TheVariants.{Gate, NoMemory as OutOfMemory, Refused as WasRefused}
use Rattle.worm_run.specs.Working.{HasTurned, IsStopped, MayPassBelow, WorkedAs}

-- one turn more, for which the gate answered true
pub passes_more : (pass : ℕ → ℕ → Type 0) (worker n : ℕ) (answer : Bool) → MayPassBelow pass worker n →
    OnTrue answer (pass worker n) → answer ≡ true → MayPassBelow pass worker (n + 1)
passes_more pass worker n answer before goes is turn below = elim (cases_lt turn n) [
  | inl earlier ↦ before turn earlier
  | inr last ↦
      let same : n ≡ turn = omega arith in
      let here : pass worker n = subst (λ (b : Bool). OnTrue b (pass worker n)) is goes in
      subst (λ (t : ℕ). pass worker t) same here
]

-- what a worker met in its turn stopped it
pub stopped_at : (stop pass : ℕ → ℕ → Type 0) (script : List Entry) (turns worker n : ℕ) (old mid new : PartState)
    (why : StopWhy) → n < turns → MayPassBelow pass worker (n + 1) → IsMet why → HasTurned script n old mid
    → ((fault : StepFault) → fault_behind why ≡ Some fault → IsStopped (due n script) fault mid new) →
    WorkedAs stop pass script turns worker old (record { part = new; ended = n; stop = Some why })
stopped_at stop pass script turns worker n old mid new Gate below begun met turned stopped = absurd (met refl)
stopped_at stop pass script turns worker n old mid new OutOfMemory below begun met turned stopped = record {
  stops = below;
  passed = begun;
  ends = (mid, turned, stopped NoMemory refl);
}
stopped_at stop pass script turns worker n old mid new (WasRefused why) below begun met turned stopped = record {
  stops = below;
  passed = begun;
  ends = (mid, turned, stopped (Refused why) refl);
}
