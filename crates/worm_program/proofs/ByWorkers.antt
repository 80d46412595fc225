-- What the program answers where workers ran, and where they did not.
use Rattle.std.proofs.Common.{◌≡◌, ◌≢◌, ◌||◌, ℕ, ◌+◌, ◌<◌, suc, inl, inr, Bool, true, false, List, [], ◌∷◌, ◌++◌}
use Rattle.std.proofs.Common.{length, Some, None, Option, Ok, Err, refl, arith, sym, subst, ◌∙◌}
use Rattle.std.specs.Prelude.{All, Result, MatchResult, if◌then◌else◌}
use Rattle.std.specs.Io.KnownBytes.{Keeps}
use Rattle.std.proofs.lemmas.List.Elements.{All-cons, All-head, All-nil, All-tail}
use Rattle.worm_term.specs.declared.fault.OfferFault.{OfferFault}
use Rattle.worm_theory.proofs.Places.{bool_cases}
use Rattle.worm_core.specs.Acceptable.{EndsForMemory, IsAcceptableScript}
use Rattle.worm_region.specs.NewNet.{IsFresh}
use Rattle.worm_region.specs.State.{NetState}
use Rattle.worm_script.specs.declared.entry.Entry.{Entry}
use Rattle.worm_region.specs.declared.fault.StepFault.{StepFault}
use Rattle.worm_region.specs.declared.fault.StepFault.TheVariants.{NoMemory as NoRoom}
use Rattle.worm_core.proofs.SourceLedgers.{quiet_drains}
use Rattle.worm_run.specs.declared.plan.RunPlan.{RunPlan}
use Rattle.worm_run.specs.declared.plan.Stop.{Stop}
use Rattle.worm_split.specs.declared.stop.StopWhy.{StopWhy}
use Rattle.worm_split.specs.declared.stop.StopWhy.TheVariants.{Gate, NoMemory, Refused}
use Rattle.worm_run.specs.Runs.{Ending, ending_at, stops_of}
use Rattle.worm_run.specs.Working.{stop_of}
use Rattle.worm_run.proofs.NeverRefused.{run_never_refuses}
use Rattle.worm_text.specs.Network.{Network}
use Rattle.worm_alone.specs.declared.fault.ProgramFault.{ProgramFault}
use Rattle.worm_alone.specs.declared.fault.ProgramFault.TheVariants as f
use Rattle.worm_alone.specs.Programs.{IsNotAccepted, Stream, WritesFront, WritesReport}
use Rattle.worm_program.specs.Together.{DrainsUnstopped, EndsTogether, FailsTogether, IsReportOf, PartTogether}
use Rattle.worm_program.specs.Together.{RanWhole, ReportsTogether, EndsUnrefused, IsNoRefusal}
use Rattle.worm_program.specs.Together.{for_memory, lack_memory}

-- Stops

abbrev AreByGate : List Stop → Type 0
AreByGate stops = All (λ (s : Stop). s.why ≡ Gate) stops

abbrev AreNoRefusals : List Stop → Type 0
AreNoRefusals stops = All (λ (s : Stop). IsNoRefusal s.why) stops

one_more : (first n : ℕ) (why : Option StopWhy) (rest : List Stop) → ((w : OfferFault) → why ≡ Some (Refused w) → ⊥) →
    AreNoRefusals rest → AreNoRefusals (stop_of first n why ++ rest)
one_more first n None rest none later = later
one_more first n (Some Gate) rest none later = All-cons (λ (s : Stop). IsNoRefusal s.why) _ rest tt later
one_more first n (Some NoMemory) rest none later = All-cons (λ (s : Stop). IsNoRefusal s.why) _ rest tt later
one_more first n (Some (Refused w)) rest none later = absurd (none w refl)

no_refusals : (first : ℕ) (endings : List Ending) →
    ((i : ℕ) (why : OfferFault) → i < length endings → (ending_at endings i).why ≡ Some (Refused why) → ⊥) →
    AreNoRefusals (stops_of first endings)
no_refusals first [] none = All-nil (λ (s : Stop). IsNoRefusal s.why)
no_refusals first (e ∷ es) none =
    one_more first e.ended e.why (stops_of (first + 1) es) (λ w is. none 0 w (omega arith) is)
    (no_refusals (first + 1) es (λ i why below is. none (suc i) why (omega arith) is))

is_gate : (why : StopWhy) → IsNoRefusal why → for_memory why ≡ false → why ≡ Gate
is_gate Gate fine had = refl
is_gate NoMemory fine had = absurd (cc)
is_gate (Refused w) fine had = absurd fine

neither : (a b : Bool) → (a || b) ≡ false → (a ≡ false) × (b ≡ false)
neither true b e = absurd (cc)
neither false b e = (refl, e)

-- where no source refused and memory was there, a gate was the cause
by_gate : (stops : List Stop) → AreNoRefusals stops → lack_memory stops ≡ false → AreByGate stops
by_gate [] fine had = All-nil (λ (s : Stop). s.why ≡ Gate)
by_gate (s ∷ stops) fine had =
    let each = neither (for_memory s.why) (lack_memory stops) had in
    All-cons (λ (s : Stop). s.why ≡ Gate) s stops
    (is_gate s.why (All-head (λ (s : Stop). IsNoRefusal s.why) s stops fine) each.0)
    (by_gate stops (All-tail (λ (s : Stop). IsNoRefusal s.why) s stops fine) each.1)

-- Drains

if_true : (b : Bool) → b ≡ true → (if b then Some NoRoom else None) ≡ Some NoRoom
if_true b is = rw is refl

if_false : (b : Bool) → b ≡ false → ◌≡◌ {A = Option StepFault} (if b then Some NoRoom else None) None
if_false b is = rw is refl

-- nothing but want of memory is told
for_want : (most : ℕ) (stops : List Stop) (old new : NetState) (fault : Option StepFault) →
    DrainsUnstopped most stops old fault new → EndsForMemory fault
for_want most [] old new fault drained = (quiet_drains most old new fault drained).1
for_want most (s ∷ stops) old new fault drained = elim (bool_cases (lack_memory (s ∷ stops))) [
  | inl lacks ↦ inr (drained.0 ∙ if_true (lack_memory (s ∷ stops)) lacks)
  | inr none ↦ inl (drained.0 ∙ if_false (lack_memory (s ∷ stops)) none)
]

-- where it is not told, no worker lacked it
had_memory : (most : ℕ) (stops : List Stop) (old new : NetState) (fault : Option StepFault) →
    DrainsUnstopped most stops old fault new → fault ≢ Some NoRoom → lack_memory stops ≡ false
had_memory most [] old new fault drained had = refl
had_memory most (s ∷ stops) old new fault drained had = elim (bool_cases (lack_memory (s ∷ stops))) [
  | inl lacks ↦ absurd (had (drained.0 ∙ if_true (lack_memory (s ∷ stops)) lacks))
  | inr none ↦ none
]

no_fault : (fault : Option StepFault) → EndsForMemory fault → fault ≢ Some NoRoom → fault ≡ None
no_fault fault (inl none) had = none
no_fault fault (inr want) had = absurd (had want)

module _ (stop pass : ℕ → ℕ → Type 0) (script : List Entry) (plan : RunPlan) (most : ℕ) (config : Network)
    (opening closing : NetState) (table : List (Option ℕ)) (fault : Option StepFault) where
  unrefused : IsFresh config.radices config.channels config.depth config.classes opening →
      IsAcceptableScript config.radices config.channels script →
      EndsTogether stop pass script plan most opening closing table fault →
      EndsUnrefused stop pass script plan most opening closing table fault
  unrefused fresh fine (inr never) = inr never
  unrefused fresh fine (inl ran) =
      let runs = ran.runs in
      let none = no_refusals 0 runs.endings
      (λ i why below is. run_never_refuses stop pass config.radices config.channels config.depth config.classes script
      plan opening ran.end fresh fine runs i why (let all = runs.all in omega arith) is) in
      inl record {
        ran = ran;
        not_refused = subst AreNoRefusals (sym runs.stops) none;
        for_memory = for_want most ran.end.stops.items ran.end.net closing fault ran.drained;
      }

  whole : fault ≢ Some NoRoom → EndsUnrefused stop pass script plan most opening closing table fault →
      RanWhole stop pass script plan most opening closing table
  whole had (inr never) = absurd (had never.want)
  whole had (inl so) =
      let ran = so.ran in
      record {
        ran = record {
          workers = ran.workers;
          end = ran.end;
          exact = ran.exact;
          runs = ran.runs;
          later = ran.later;
          delivers = ran.delivers;
          stopped = ran.stopped;
          drained = subst (λ (g : Option StepFault). DrainsUnstopped most ran.end.stops.items ran.end.net g closing)
              (no_fault fault so.for_memory had) ran.drained;
        };
        by_gate = by_gate ran.end.stops.items so.not_refused
            (had_memory most ran.end.stops.items ran.end.net closing fault ran.drained had);
      }

-- texts that were not accepted, of whose report nothing was written
pub not_accepted : (stop pass : ℕ → ℕ → Type 0) (plan : RunPlan) (drain : ℕ) (out : Stream) (network traffic : List ℕ)
    (fault : ProgramFault) → IsNotAccepted network traffic fault → Keeps out.old out.new
    → FailsTogether stop pass plan drain out network traffic fault
not_accepted stop pass plan drain out network traffic (f.Network t) is kept = (is, kept)
not_accepted stop pass plan drain out network traffic (f.Traffic t) is kept = (is, kept)
not_accepted stop pass plan drain out network traffic f.ReadNetwork is kept = absurd is
not_accepted stop pass plan drain out network traffic f.ReadTraffic is kept = absurd is
not_accepted stop pass plan drain out network traffic f.NoMemory is kept = inl (inl is, kept)
not_accepted stop pass plan drain out network traffic f.Write is kept = absurd is
not_accepted stop pass plan drain out network traffic f.Workers is kept = absurd is
not_accepted stop pass plan drain out network traffic (f.NotStarted w) is kept = absurd is

-- what was written of a report, and what is answered
module _ (stop pass : ℕ → ℕ → Type 0) (network traffic : List ℕ) (plan : RunPlan) (drain : ℕ) (out : Stream)
    (fault : Option StepFault) (bytes : List ℕ)
    (base : IsReportOf (λ script opening closing table.
    EndsTogether stop pass script plan drain opening closing table fault)
    network traffic plan drain bytes)
    (fine : IsAcceptableScript base.config.radices base.config.channels base.script) where
  leads : EndsUnrefused stop pass base.script plan drain base.opening base.closing base.table fault
  leads = unrefused stop pass base.script plan drain base.config base.opening base.closing base.table fault
      base.fresh fine base.leads

  part : WritesFront out bytes → PartTogether stop pass network traffic plan drain out
  part front = record {
    fault = fault;
    bytes = bytes;
    reported = record {
      config = base.config;
      script = base.script;
      accepted = base.accepted;
      opening = base.opening;
      fresh = base.fresh;
      closing = base.closing;
      table = base.table;
      leads = leads;
      reported = base.reported;
    };
    written = front;
  }

  pub together_so : (result : Result (Unit {0}) ProgramFault) → WritesReport out fault result bytes →
      MatchResult result (λ _. ReportsTogether stop pass network traffic plan drain out)
      (FailsTogether stop pass plan drain out network traffic)
  unfolding part
  together_so (Ok done) writes = record {
    bytes = bytes;
    reported = record {
      config = base.config;
      script = base.script;
      accepted = base.accepted;
      opening = base.opening;
      fresh = base.fresh;
      closing = base.closing;
      table = base.table;
      leads = whole stop pass base.script plan drain base.config base.opening base.closing base.table fault
          writes.0 leads;
      reported = base.reported;
    };
    written = writes.1;
  }
  together_so (Err f.NoMemory) writes = inr record {
    part = part writes.part;
    lines = writes.lines;
    short = writes.short;
  }
  together_so (Err f.Write) writes = part writes
  together_so (Err f.Workers) writes = absurd writes
  together_so (Err (f.Network t)) writes = absurd writes
  together_so (Err (f.Traffic t)) writes = absurd writes
  together_so (Err f.ReadNetwork) writes = absurd writes
  together_so (Err f.ReadTraffic) writes = absurd writes
  together_so (Err (f.NotStarted w)) writes = absurd writes
