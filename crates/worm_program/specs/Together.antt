-- What the program makes of two texts by several workers: the report of a network that their run may give.
use Rattle.std.specs.Prelude.{ℕ, ◌≡◌, ◌<◌, ◌≤◌, ◌-◌, ◌==◌, ◌⊎◌, Bool, true, false, if◌then◌else◌, List, [], ◌∷◌}
use Rattle.std.specs.Prelude.{length, MatchResult, Result}
use Rattle.std.specs.Prelude.{slice_index_or, All, find, option_map, Option, None, Some}
use Rattle.std.specs.List.{list_any}
use Rattle.std.specs.Io.KnownBytes.{Keeps, Appends}
use Rattle.worm_mesh.specs.Address.{node_count}
use Rattle.worm_script.specs.declared.entry.Entry.{Entry}
use Rattle.worm_region.specs.declared.fault.StepFault.{StepFault}
use Rattle.worm_region.specs.declared.fault.StepFault.TheVariants.{NoMemory as NoRoom}
use Rattle.worm_core.specs.Acceptable.{EndsForMemory}
use Rattle.worm_core.specs.Headline.{DeliversInOrder}
use Rattle.worm_region.specs.NewNet.{IsFresh}
use Rattle.worm_region.specs.State.{NetState}
use Rattle.worm_region.specs.Totals.{accepted_total}
use Rattle.worm_region.specs.Turns.{Drains}
use Rattle.worm_split.specs.Joins.{IsLaterThan}
use Rattle.worm_run.specs.declared.plan.RunEnd.{RunEnd}
use Rattle.worm_run.specs.declared.plan.RunPlan.{RunPlan}
use Rattle.worm_run.specs.declared.plan.Stop.{Stop}
use Rattle.worm_split.specs.declared.stop.StopWhy.{StopWhy}
use Rattle.worm_split.specs.declared.stop.StopWhy.TheVariants.{Gate, NoMemory, Refused}
use Rattle.worm_run.specs.Runs.{HasWorkers, IsRunOf, RunsTo}
use Rattle.worm_text.specs.Network.{Network}
use Rattle.worm_text.specs.ScriptView.{said_of}
use Rattle.worm_report.specs.declared.summary.Summary.{Summary}
use Rattle.worm_report.specs.Report.{report}
use Rattle.worm_report.specs.Seen.{seen}
use Rattle.worm_report.specs.Writing.{AreLines}
use Rattle.worm_alone.specs.declared.fault.ProgramFault.{ProgramFault}
use Rattle.worm_alone.specs.declared.fault.ProgramFault.TheVariants as f
use Rattle.worm_words.specs.declared.words.Options.{Options}
use Rattle.worm_alone.specs.Programs.{FailsAlone, FailsReading, GaveBoth, IsCutShort, IsRefusedAs, RanOutAtEntry}
use Rattle.worm_alone.specs.Programs.{ReportsAlone, SaysNetwork, SaysTraffic, Stream, WritesFront}

-- Stops

-- the turn in which a worker was stopped, if it was
abbrev pub stop_turn : List Stop → ℕ → Option ℕ
stop_turn stops w = option_map (λ (s : Stop). s.turn) (find (λ (s : Stop). s.worker == w) stops)

-- at each place the turn in which that worker was stopped, if it was
abbrev pub AreStopsOf : List Stop → List (Option ℕ) → Type 0
AreStopsOf stops table = (w : ℕ) → w < 16 → slice_index_or table w None ≡ stop_turn stops w

-- the worker found no memory
abbrev pub for_memory : StopWhy → Bool
for_memory Gate = false
for_memory NoMemory = true
for_memory (Refused why) = false

-- some worker found none
abbrev pub lack_memory : List Stop → Bool
lack_memory stops = list_any (λ (s : Stop). for_memory s.why) stops

-- a gate or want of memory was the cause: no source refused an entry
abbrev pub IsNoRefusal : StopWhy → Type 0
IsNoRefusal Gate = Unit {0}
IsNoRefusal NoMemory = Unit {0}
IsNoRefusal (Refused why) = ⊥

-- Runs

-- what the options ask the workers for
abbrev pub plan_of : Options → RunPlan
plan_of o = record { turns = o.turns; workers = o.workers }

-- the drain follows where nobody was stopped; else want of memory is told
abbrev pub DrainsUnstopped : ℕ → List Stop → NetState → Option StepFault → NetState → Type 0
DrainsUnstopped most [] old fault new = Drains most old fault new
DrainsUnstopped most (s ∷ stops) old fault new =
    (fault ≡ (if lack_memory (s ∷ stops) then Some NoRoom else None)) × (new ≡ old)

-- There are at most as many workers as nodes, and they ran: each took its turns on its part, which is what a run may
-- give and of which the headline holds; and then the drain where nobody was stopped.
pub record RanTogether (may_stop may_pass : ℕ → ℕ → Type 0) (script : List Entry) (plan : RunPlan) (most : ℕ)
    (opening closing : NetState) (table : List (Option ℕ)) (fault : Option StepFault) : Type 0 where
  pub workers : HasWorkers opening plan
  pub end : RunEnd
  pub exact : IsRunOf may_stop may_pass script plan opening end
  pub runs : RunsTo may_stop may_pass script plan opening end
  pub later : IsLaterThan opening end.net
  pub delivers : DeliversInOrder end.net
  pub stopped : AreStopsOf end.stops.items table
  pub drained : DrainsUnstopped most end.stops.items end.net fault closing

-- there are at most as many as nodes, but there was no memory for their parts, and the network is as it was
pub record NeverRan (plan : RunPlan) (opening closing : NetState) (table : List (Option ℕ))
    (fault : Option StepFault) : Type 0 where
  pub workers : HasWorkers opening plan
  pub same : closing ≡ opening
  pub stopped : AreStopsOf [] table
  pub want : fault ≡ Some NoRoom

abbrev pub EndsTogether : (may_stop may_pass : ℕ → ℕ → Type 0) → List Entry → RunPlan → ℕ → NetState → NetState
    → List (Option ℕ) → Option StepFault → Type 0
EndsTogether may_stop may_pass script plan most opening closing table fault =
    RanTogether may_stop may_pass script plan most opening closing table fault
    ⊎ NeverRan plan opening closing table fault

-- The workers ran, and no source refused an entry: each was stopped by its gate or for want of memory, if at all, and
-- nothing but want of memory ended the drain.
pub record RanUnrefused (may_stop may_pass : ℕ → ℕ → Type 0) (script : List Entry) (plan : RunPlan) (most : ℕ)
    (opening closing : NetState) (table : List (Option ℕ)) (fault : Option StepFault) : Type 0 where
  pub ran : RanTogether may_stop may_pass script plan most opening closing table fault
  pub not_refused : All (λ (s : Stop). IsNoRefusal s.why) ran.end.stops.items
  pub for_memory : EndsForMemory fault

-- the same of an accepted script, or there was no memory for the parts
abbrev pub EndsUnrefused : (may_stop may_pass : ℕ → ℕ → Type 0) → List Entry → RunPlan → ℕ → NetState → NetState
    → List (Option ℕ) → Option StepFault → Type 0
EndsUnrefused may_stop may_pass script plan most opening closing table fault =
    RanUnrefused may_stop may_pass script plan most opening closing table fault
    ⊎ NeverRan plan opening closing table fault

-- the workers ran, none was stopped but by its gate, and no fault ended the drain
pub record RanWhole (may_stop may_pass : ℕ → ℕ → Type 0) (script : List Entry) (plan : RunPlan) (most : ℕ)
    (opening closing : NetState) (table : List (Option ℕ)) : Type 0 where
  pub ran : RanTogether may_stop may_pass script plan most opening closing table None
  pub by_gate : All (λ (s : Stop). s.why ≡ Gate) ran.end.stops.items

-- Reports

-- what a report tells of a run beside its network
abbrev pub summary_with : RunPlan → ℕ → List (Option ℕ) → ℕ → Summary
summary_with plan drain table not_offered =
    record { turns = plan.turns; workers = plan.workers; drain = drain; stops = table; not_offered = not_offered }

-- both texts are accepted: they say this configuration and this script
pub record AreAccepted (network traffic : List ℕ) (config : Network) (script : List Entry) : Type 0 where
  pub of_network : SaysNetwork network config
  pub of_traffic : SaysTraffic config traffic (said_of script)

-- Both texts are accepted, and these bytes are the report of a network to which workers with this script led from the
-- empty one.
pub record IsReportOf (Leads : List Entry → NetState → NetState → List (Option ℕ) → Type 0) (network traffic : List ℕ)
    (plan : RunPlan) (drain : ℕ) (bytes : List ℕ) : Type 0 where
  pub config : Network
  pub script : List Entry
  pub accepted : AreAccepted network traffic config script
  pub opening : NetState
  pub fresh : IsFresh config.radices config.channels config.depth config.classes opening
  pub closing : NetState
  pub table : List (Option ℕ)
  pub leads : Leads script opening closing table
  pub reported : bytes ≡ report (seen closing) (summary_with plan drain table (length script - accepted_total closing))

-- the report of a whole run was written, all of it
pub record ReportsTogether (may_stop may_pass : ℕ → ℕ → Type 0) (network traffic : List ℕ) (plan : RunPlan) (drain : ℕ)
    (out : Stream) : Type 0 where
  pub bytes : List ℕ
  pub reported : IsReportOf (λ script. RanWhole may_stop may_pass script plan drain) network traffic plan drain bytes
  pub written : Appends out.old out.new bytes

-- a first part of the report of a run was written
pub record PartTogether (may_stop may_pass : ℕ → ℕ → Type 0) (network traffic : List ℕ) (plan : RunPlan) (drain : ℕ)
    (out : Stream) : Type 0 where
  pub fault : Option StepFault
  pub bytes : List ℕ
  pub reported : IsReportOf
      (λ script opening closing table. EndsUnrefused may_stop may_pass script plan drain opening closing table fault)
      network traffic plan drain bytes
  pub written : WritesFront out bytes

-- the same where memory ran out: whole lines, and all of the report only where memory ran out in the run
pub record ShortTogether (may_stop may_pass : ℕ → ℕ → Type 0) (network traffic : List ℕ) (plan : RunPlan) (drain : ℕ)
    (out : Stream) : Type 0 where
  pub part : PartTogether may_stop may_pass network traffic plan drain out
  pub lines : AreLines part.written.front
  pub short : IsCutShort part.fault part.written.rest

-- both texts are accepted, and this holds of the number of nodes
pub record HasNodes (Holds : ℕ → Type 0) (network traffic : List ℕ) : Type 0 where
  pub config : Network
  pub script : List Entry
  pub accepted : AreAccepted network traffic config script
  pub nodes : Holds (node_count config.radices)

-- Memory ran out before the workers ran: at an entry of the traffic text, or where both texts are accepted and there
-- are as many nodes. So want of memory hides neither a refused text nor too many workers.
abbrev pub RanOutBefore : RunPlan → List ℕ → List ℕ → Type 0
RanOutBefore plan network traffic =
    RanOutAtEntry network traffic ⊎ HasNodes (λ nodes. plan.workers ≤ nodes) network traffic

-- what a fault tells of two texts at hand
abbrev pub FailsTogether : (may_stop may_pass : ℕ → ℕ → Type 0) → RunPlan → ℕ → Stream → List ℕ → List ℕ
    → ProgramFault → Type 0
FailsTogether may_stop may_pass plan drain out network traffic f.Workers =
    HasNodes (λ nodes. nodes < plan.workers) network traffic × Keeps out.old out.new
FailsTogether may_stop may_pass plan drain out network traffic (f.Network t) =
    IsRefusedAs network traffic (f.Network t) × Keeps out.old out.new
FailsTogether may_stop may_pass plan drain out network traffic (f.Traffic t) =
    IsRefusedAs network traffic (f.Traffic t) × Keeps out.old out.new
FailsTogether may_stop may_pass plan drain out network traffic f.ReadNetwork = ⊥
FailsTogether may_stop may_pass plan drain out network traffic f.ReadTraffic = ⊥
FailsTogether may_stop may_pass plan drain out network traffic f.NoMemory =
    (RanOutBefore plan network traffic × Keeps out.old out.new)
    ⊎ ShortTogether may_stop may_pass network traffic plan drain out
FailsTogether may_stop may_pass plan drain out network traffic (f.NotStarted w) =
    (w < plan.workers) × HasNodes (λ nodes. plan.workers ≤ nodes) network traffic × Keeps out.old out.new
FailsTogether may_stop may_pass plan drain out network traffic f.Write =
    PartTogether may_stop may_pass network traffic plan drain out

-- both readers gave their texts, and the report of them was written
pub record ReportsByWorkers (may_stop may_pass : ℕ → ℕ → Type 0) (plan : RunPlan) (drain : ℕ)
    (first second out : Stream) : Type 0 where
  pub network : List ℕ
  pub traffic : List ℕ
  pub gave : GaveBoth first second network traffic
  pub reports : ReportsTogether may_stop may_pass network traffic plan drain out

-- what a fault tells where two readers give the texts
abbrev pub FailsByWorkers : (may_stop may_pass : ℕ → ℕ → Type 0) → RunPlan → ℕ → Stream → Stream → Stream
    → ProgramFault → Type 0
FailsByWorkers may_stop may_pass plan drain first second out =
    FailsReading (FailsTogether may_stop may_pass plan drain out) first second out

-- What a run of two texts by the options gave: with one worker what it gives on one thread.
pub record RunsTexts (may_stop may_pass : ℕ → ℕ → Type 0) (options : Options) (first second out : Stream)
    (result : Result (Unit {0}) ProgramFault) : Type 0 where
  pub alone : options.workers ≡ 1 → MatchResult result
      (λ _. ReportsAlone options.turns options.drain first second out)
      (FailsAlone options.turns options.drain first second out)
  pub together : 1 < options.workers → MatchResult result
      (λ _. ReportsByWorkers may_stop may_pass (plan_of options) options.drain first second out)
      (FailsByWorkers may_stop may_pass (plan_of options) options.drain first second out)
