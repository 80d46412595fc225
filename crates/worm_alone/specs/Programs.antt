-- What the program makes of two texts on one thread: the report of the run of the script that the one says, on the
-- network that the other says.
use Rattle.std.specs.Prelude.{ℕ, ◌≡◌, ◌≢◌, ◌-◌, ◌⊎◌, List, [], ◌∷◌, ◌++◌, length, take, drop, replicate, Option, None}
use Rattle.std.specs.Prelude.{Some, Result, Ok, Err}
use Rattle.std.specs.Io.KnownBytes.{Keeps, Appends}
use Rattle.worm_script.specs.declared.entry.Entry.{Entry}
use Rattle.worm_region.specs.declared.fault.StepFault.{StepFault}
use Rattle.worm_region.specs.declared.fault.StepFault.TheVariants.{NoMemory as NoRoom}
use Rattle.worm_region.specs.State.{NetState}
use Rattle.worm_region.specs.NewNet.{IsFresh}
use Rattle.worm_region.specs.Totals.{accepted_total}
use Rattle.worm_core.specs.Acceptable.{EndsForMemory}
use Rattle.worm_script.specs.Script.{due}
use Rattle.worm_region.specs.Turns.{Turns, Turn, OneThreadRun}
use Rattle.worm_text.specs.declared.format.Format.{Format}
use Rattle.worm_text.specs.Network.{Network, Keeps as KeepsRules, text}
use Rattle.worm_text.specs.Reader.{network_of, IsFaultLine}
use Rattle.worm_text.specs.Traffic.{Said, traffic_of}
use Rattle.worm_text.specs.TrafficText.{AreEntries, traffic_text}
use Rattle.worm_text.specs.TrafficFaults.{IsEntryLine, IsTrafficFaultLine}
use Rattle.worm_text.specs.ScriptView.{said_of}
use Rattle.worm_report.specs.declared.summary.Summary.{Summary}
use Rattle.worm_report.specs.Seen.{seen}
use Rattle.worm_report.specs.Report.{report}
use Rattle.worm_report.specs.Writing.{AreLines}
use Rattle.worm_alone.specs.declared.fault.ProgramFault.{ProgramFault}
use Rattle.worm_alone.specs.declared.fault.ProgramFault.TheVariants as f
use Rattle.worm_alone.specs.declared.turns.Ending.{Ending}
use Rattle.worm_alone.specs.Joined.{IsCut}
use Rattle.worm_text.specs.Whole.{GaveFront, GaveWhole, IsWhole}

-- the turns below this one had no fault, and this one had
abbrev pub StopsAt : List Entry → ℕ → NetState → StepFault → NetState → Type 0
StopsAt script turn old fault new = (mid : NetState) × Turns script turn old None mid
    × Turn (due turn script) mid (Some fault) new

-- Texts

-- a network text is one of this configuration
pub record SaysNetwork (bytes : List ℕ) (config : Network) : Type 0 where
  pub format : Format
  pub keeps : KeepsRules format config
  pub spelled : bytes ≡ text format config

-- a traffic text is that of these entries
pub record SaysTraffic (config : Network) (bytes : List ℕ) (entries : List Said) : Type 0 where
  pub keeps : AreEntries config [] entries
  pub spelled : bytes ≡ traffic_text config entries

-- Memory ran out over two texts: the network text is accepted, and the traffic text is too, or its lines are up to
-- that of an entry.
pub record RanOutOver (network traffic : List ℕ) : Type 0 where
  pub config : Network
  pub of_network : SaysNetwork network config
  pub so_far : ((entries : List Said) × SaysTraffic config traffic entries)
      ⊎ ((line : ℕ) × IsEntryLine config traffic line)

-- Memory ran out over the traffic text: the network text is accepted, and the traffic text's lines are up to that of an
-- entry.
pub record RanOutAtEntry (network traffic : List ℕ) : Type 0 where
  pub config : Network
  pub of_network : SaysNetwork network config
  pub line : ℕ
  pub so_far : IsEntryLine config traffic line

-- one of the two texts is refused: the first fault of the network text, or, where that one is accepted, of the traffic
-- text
abbrev pub IsRefusedAs : List ℕ → List ℕ → ProgramFault → Type 0
IsRefusedAs network traffic (f.Network t) = (network_of network ≡ Err t) × IsFaultLine network t.line
IsRefusedAs network traffic (f.Traffic t) =
    (config : Network) × SaysNetwork network config × (traffic_of config traffic ≡ Err t)
    × IsTrafficFaultLine config traffic t.line
IsRefusedAs network traffic f.ReadNetwork = ⊥
IsRefusedAs network traffic f.ReadTraffic = ⊥
IsRefusedAs network traffic f.NoMemory = ⊥
IsRefusedAs network traffic f.Write = ⊥
IsRefusedAs network traffic f.Workers = ⊥
IsRefusedAs network traffic (f.NotStarted w) = ⊥

-- The texts are not both accepted, or memory ran out at an entry of the traffic text. A refused network text is always
-- told as such.
abbrev pub IsNotAccepted : List ℕ → List ℕ → ProgramFault → Type 0
IsNotAccepted network traffic (f.Network t) = IsRefusedAs network traffic (f.Network t)
IsNotAccepted network traffic (f.Traffic t) = IsRefusedAs network traffic (f.Traffic t)
IsNotAccepted network traffic f.ReadNetwork = ⊥
IsNotAccepted network traffic f.ReadTraffic = ⊥
IsNotAccepted network traffic f.NoMemory = RanOutAtEntry network traffic
IsNotAccepted network traffic f.Write = ⊥
IsNotAccepted network traffic f.Workers = ⊥
IsNotAccepted network traffic (f.NotStarted w) = ⊥

-- Runs

-- what a report tells of a run beside its network
abbrev pub summary_of : ℕ → ℕ → Ending → ℕ → Summary
summary_of turns drain ending not_offered =
    record {
      turns = turns;
      workers = 1;
      drain = drain;
      stops = ending.stopped ∷ replicate 15 None;
      not_offered = not_offered;
    }

-- Both texts are accepted, and these bytes are the report of the run of the script on the network, from nothing
-- offered, that ended thus.
pub record IsReported (network traffic : List ℕ) (turns drain : ℕ) (ending : Ending) (bytes : List ℕ) : Type 0 where
  pub config : Network
  pub of_network : SaysNetwork network config
  pub script : List Entry
  pub of_traffic : SaysTraffic config traffic (said_of script)
  pub opening : NetState
  pub fresh : IsFresh config.radices config.channels config.depth config.classes opening
  pub closing : NetState
  pub run : OneThreadRun script turns drain opening ending.stopped ending.fault closing
  pub reported : bytes ≡ report (seen closing) (summary_of turns drain ending (length script - accepted_total closing))

-- what a reader had left and has left, or what a writer held and holds
pub record Stream : Type 0 where
  pub old : Option (List ℕ)
  pub new : Option (List ℕ)

abbrev pub stream : Option (List ℕ) → Option (List ℕ) → Stream
stream old new = record { old = old; new = new }

-- a first part of the bytes was written
pub record WritesFront (out : Stream) (bytes : List ℕ) : Type 0 where
  pub front : List ℕ
  pub rest : List ℕ
  pub parts : bytes ≡ front ++ rest
  pub written : Appends out.old out.new front

-- some of a report is still to come, unless memory had run out in its run
abbrev pub IsCutShort : Option StepFault → List ℕ → Type 0
IsCutShort fault rest = rest ≡ [] → fault ≡ Some NoRoom

-- Memory ran out: a first part of the bytes was written, in whole lines, so that the writer took all that it was given;
-- and all of them only where memory ran out in the run.
pub record WritesShort (out : Stream) (fault : Option StepFault) (bytes : List ℕ) : Type 0 where
  pub part : WritesFront out bytes
  pub lines : AreLines part.front
  pub short : IsCutShort fault part.rest

-- What a call wrote of the report of a run that ended with this fault, or with none. Want of memory in the run is told
-- where the report is out.
abbrev pub WritesReport : Stream → Option StepFault → Result (Unit {0}) ProgramFault → List ℕ → Type 0
WritesReport out fault (Ok _) bytes = (fault ≢ Some NoRoom) × Appends out.old out.new bytes
WritesReport out fault (Err f.NoMemory) bytes = WritesShort out fault bytes
WritesReport out fault (Err f.Write) bytes = WritesFront out bytes
WritesReport out fault (Err (f.Network t)) bytes = ⊥
WritesReport out fault (Err (f.Traffic t)) bytes = ⊥
WritesReport out fault (Err f.ReadNetwork) bytes = ⊥
WritesReport out fault (Err f.ReadTraffic) bytes = ⊥
WritesReport out fault (Err f.Workers) bytes = ⊥
WritesReport out fault (Err (f.NotStarted w)) bytes = ⊥

-- a run that no fault stopped or ended
abbrev pub whole_run : Ending
whole_run = record { stopped = None; fault = None }

-- these bytes are the report of the whole run: the one report that the texts have
pub record IsOneReport (network traffic : List ℕ) (turns drain : ℕ) (bytes : List ℕ) : Type 0 where
  pub reported : IsReported network traffic turns drain whole_run bytes
  pub only : (other : List ℕ) → IsReported network traffic turns drain whole_run other → other ≡ bytes

-- that report was written, all of it
pub record Reports (network traffic : List ℕ) (turns drain : ℕ) (out : Stream) : Type 0 where
  pub bytes : List ℕ
  pub one : IsOneReport network traffic turns drain bytes
  pub written : Appends out.old out.new bytes

-- A first part of the report of a run was written; no source refused an entry: nothing but want of memory ended the
-- run. Unless that did, it is the one report that the texts have.
pub record ReportsPart (network traffic : List ℕ) (turns drain : ℕ) (out : Stream) : Type 0 where
  pub ending : Ending
  pub for_memory : EndsForMemory ending.fault
  pub bytes : List ℕ
  pub reported : IsReported network traffic turns drain ending bytes
  pub one : ending.fault ≢ Some NoRoom → IsOneReport network traffic turns drain bytes
  pub written : WritesFront out bytes

-- the same where memory ran out: whole lines, and all of the report only where memory ran out in the run
pub record ReportsShort (network traffic : List ℕ) (turns drain : ℕ) (out : Stream) : Type 0 where
  pub part : ReportsPart network traffic turns drain out
  pub lines : AreLines part.written.front
  pub short : IsCutShort part.ending.fault part.written.rest

-- what a fault tells of two texts at hand
abbrev pub Fails : List ℕ → List ℕ → ℕ → ℕ → Stream → ProgramFault → Type 0
Fails network traffic turns drain out (f.Network t) = IsRefusedAs network traffic (f.Network t) × Keeps out.old out.new
Fails network traffic turns drain out (f.Traffic t) = IsRefusedAs network traffic (f.Traffic t) × Keeps out.old out.new
Fails network traffic turns drain out f.ReadNetwork = ⊥
Fails network traffic turns drain out f.ReadTraffic = ⊥
Fails network traffic turns drain out f.NoMemory =
    (RanOutOver network traffic × Keeps out.old out.new) ⊎ ReportsShort network traffic turns drain out
Fails network traffic turns drain out f.Write = ReportsPart network traffic turns drain out
Fails network traffic turns drain out f.Workers = ⊥
Fails network traffic turns drain out (f.NotStarted w) = ⊥

-- Readers

-- a reader gave this text, of 8 MiB at most, to its end
abbrev pub GaveText : Stream → List ℕ → Type 0
GaveText reader text = IsWhole 8388608 reader.old reader.new text

-- a reader gave some text so
abbrev pub GaveSome : Stream → Type 0
GaveSome reader = GaveWhole 8388608 reader.old reader.new

-- a reader gave some first part of what it had
abbrev pub GavePart : Stream → Type 0
GavePart reader = GaveFront reader.old reader.new

-- both readers gave their texts to the end
pub record GaveBoth (first second : Stream) (network traffic : List ℕ) : Type 0 where
  pub of_network : GaveText first network
  pub of_traffic : GaveText second traffic

-- both readers gave their texts, and the report of them was written
pub record ReportsAlone (turns drain : ℕ) (first second out : Stream) : Type 0 where
  pub network : List ℕ
  pub traffic : List ℕ
  pub gave : GaveBoth first second network traffic
  pub reports : Reports network traffic turns drain out

-- both readers gave their texts, of which this holds
pub record FailsBoth (Holds : List ℕ → List ℕ → Type 0) (first second : Stream) : Type 0 where
  pub network : List ℕ
  pub traffic : List ℕ
  pub gave : GaveBoth first second network traffic
  pub fails : Holds network traffic

-- What a fault of reading tells: the traffic is not read before the network was, and where memory ran out what was read
-- was read to its end, so that no text past the limit is told so.
abbrev pub ReadsNot : Stream → Stream → ProgramFault → Type 0
ReadsNot first second f.ReadNetwork = GavePart first × Keeps second.old second.new
ReadsNot first second f.ReadTraffic = GaveSome first × GavePart second
ReadsNot first second f.NoMemory = GaveSome first × (Keeps second.old second.new ⊎ GaveSome second)
ReadsNot first second (f.Network t) = ⊥
ReadsNot first second (f.Traffic t) = ⊥
ReadsNot first second f.Write = ⊥
ReadsNot first second f.Workers = ⊥
ReadsNot first second (f.NotStarted w) = ⊥

-- what a fault tells where two readers give the texts, by what it tells of two texts at hand
abbrev pub FailsReading : (List ℕ → List ℕ → ProgramFault → Type 0) → Stream → Stream → Stream → ProgramFault → Type 0
FailsReading Holds first second out f.Workers =
    FailsBoth (λ network traffic. Holds network traffic f.Workers) first second
FailsReading Holds first second out (f.Network t) =
    FailsBoth (λ network traffic. Holds network traffic (f.Network t)) first second
FailsReading Holds first second out (f.Traffic t) =
    FailsBoth (λ network traffic. Holds network traffic (f.Traffic t)) first second
FailsReading Holds first second out f.ReadNetwork = ReadsNot first second f.ReadNetwork × Keeps out.old out.new
FailsReading Holds first second out f.ReadTraffic = ReadsNot first second f.ReadTraffic × Keeps out.old out.new
FailsReading Holds first second out f.NoMemory =
    (ReadsNot first second f.NoMemory × Keeps out.old out.new)
    ⊎ FailsBoth (λ network traffic. Holds network traffic f.NoMemory) first second
FailsReading Holds first second out (f.NotStarted w) =
    FailsBoth (λ network traffic. Holds network traffic (f.NotStarted w)) first second
FailsReading Holds first second out f.Write = FailsBoth (λ network traffic. Holds network traffic f.Write) first second

-- the same on one thread
abbrev pub FailsAlone : ℕ → ℕ → Stream → Stream → Stream → ProgramFault → Type 0
FailsAlone turns drain first second out =
    FailsReading (λ network traffic. Fails network traffic turns drain out) first second out

-- The reader gave both texts in one, cut behind its first line that is `end`, and the report of 100 turns without a
-- drain was written.
pub record ReportsJoined (input out : Stream) : Type 0 where
  pub joined : List ℕ
  pub gave : GaveText input joined
  pub at : ℕ
  pub cut : IsCut joined at
  pub reports : Reports (take at joined) (drop at joined) 100 0 out

-- the reader gave both texts in one, cut there, and they failed thus
pub record FailsCut (input out : Stream) (fault : ProgramFault) : Type 0 where
  pub joined : List ℕ
  pub gave : GaveText input joined
  pub at : ℕ
  pub cut : IsCut joined at
  pub fails : Fails (take at joined) (drop at joined) 100 0 out fault

-- what a fault tells where one reader gives both texts
abbrev pub FailsJoined : Stream → Stream → ProgramFault → Type 0
FailsJoined input out (f.Network t) = FailsCut input out (f.Network t)
FailsJoined input out (f.Traffic t) = FailsCut input out (f.Traffic t)
FailsJoined input out f.ReadNetwork = GavePart input × Keeps out.old out.new
FailsJoined input out f.ReadTraffic = ⊥
FailsJoined input out f.NoMemory = (GaveSome input × Keeps out.old out.new) ⊎ FailsCut input out f.NoMemory
FailsJoined input out f.Write = FailsCut input out f.Write
FailsJoined input out f.Workers = ⊥
FailsJoined input out (f.NotStarted w) = ⊥
