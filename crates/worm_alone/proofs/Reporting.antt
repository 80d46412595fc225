-- What the program answers where a report of accepted texts was written, or a part of one.
use Rattle.std.proofs.Common.{◌≡◌, ◌≢◌, ◌++◌, ◌∙◌, ℕ, List, Some, None, Option, Ok, Err, inl, inr, refl, ap, subst, sym}
use Rattle.std.proofs.Common.{append-nil}
use Rattle.std.specs.Prelude.{Result, MatchResult, IsSome}
use Rattle.std.specs.Io.KnownBytes.{Keeps}
use Rattle.worm_script.specs.declared.entry.Entry.{Entry}
use Rattle.worm_region.specs.declared.fault.StepFault.{StepFault}
use Rattle.worm_region.specs.declared.fault.StepFault.TheVariants.{NoMemory as NoRoom}
use Rattle.worm_core.specs.Acceptable.{EndsForMemory}
use Rattle.worm_region.specs.State.{NetState}
use Rattle.worm_region.specs.Turns.{OneThreadRun}
use Rattle.worm_report.specs.Report.{closing_rows, flits_rows, opening_rows, report}
use Rattle.worm_report.specs.Seen.{Seen}
use Rattle.worm_report.specs.declared.summary.Summary.{Summary}
use Rattle.worm_report.specs.declared.summary.ReportFault.{ReportFault}
use Rattle.worm_report.specs.declared.summary.ReportFault.TheVariants.{NoMemory}
use Rattle.worm_report.specs.Writing.{AreLines, WritesLines}
use Rattle.worm_alone.specs.declared.fault.ProgramFault.{ProgramFault}
use Rattle.worm_alone.specs.declared.fault.ProgramFault.TheVariants as f
use Rattle.worm_alone.specs.declared.turns.Ending.{Ending}
use Rattle.worm_alone.specs.Programs.{Stream, IsOneReport, IsReported, Reports, ReportsPart, whole_run, WritesFront}
use Rattle.worm_alone.specs.Programs.{Fails, IsNotAccepted, WritesReport, WritesShort}
use Rattle.worm_alone.proofs.OneReport.{one_report}

-- texts that were not accepted, of whose report nothing was written
pub not_accepted : (network traffic : List ℕ) (turns drain : ℕ) (out : Stream) (fault : ProgramFault)
    → IsNotAccepted network traffic fault → Keeps out.old out.new → Fails network traffic turns drain out fault
not_accepted network traffic turns drain out (f.Network t) is kept = (is, kept)
not_accepted network traffic turns drain out (f.Traffic t) is kept = (is, kept)
not_accepted network traffic turns drain out f.ReadNetwork is kept = absurd is
not_accepted network traffic turns drain out f.ReadTraffic is kept = absurd is
not_accepted network traffic turns drain out f.NoMemory is kept = inl (
  record { config = is.config; of_network = is.of_network; so_far = inr (is.line, is.so_far) },
  kept,
)
not_accepted network traffic turns drain out f.Write is kept = absurd is
not_accepted network traffic turns drain out f.Workers is kept = absurd is
not_accepted network traffic turns drain out (f.NotStarted w) is kept = absurd is

-- there was no memory for the report itself
pub no_room : (out : Stream) (fault : Option StepFault) (bytes : List ℕ) (e : ReportFault) → e ≡ NoMemory
    → WritesLines out.old out.new (Err e) bytes → WritesShort out fault bytes
no_room out fault bytes e want w = record {
  part = record { front = w.front; rest = w.rest; parts = w.whole; written = w.given };
  lines = (w.more want).1;
  short = λ none. absurd ((w.more want).0 none);
}

pub report_lines : (net : Seen) (s : Summary) → AreLines (report net s)
report_lines net s = (opening_rows s ++ flits_rows net ++ closing_rows net s, refl)

-- it is out, and memory had run out before
pub ran_out : (out : Stream) (fault : Option StepFault) (bytes : List ℕ) → AreLines bytes
    → WritesLines out.old out.new (Ok tt) bytes → fault ≡ Some NoRoom → WritesShort out fault bytes
ran_out out fault bytes lines w want = record {
  part = record { front = w.front; rest = w.rest; parts = w.whole; written = w.given };
  lines = (lines.0, sym (append-nil w.front) ∙ ap (λ (z : List ℕ). w.front ++ z) (sym w.all) ∙ sym w.whole ∙ lines.1);
  short = λ none. want;
}

-- what no fault ended was not stopped

not_stopped : (script : List Entry) (turns drain : ℕ) (opening closing : NetState) (stopped : Option ℕ)
    (fault : Option StepFault)
    → OneThreadRun script turns drain opening stopped fault closing → fault ≡ None → stopped ≡ None
not_stopped script turns drain opening closing None fault run none = refl
not_stopped script turns drain opening closing (Some t) fault run none =
    let clash = subst (λ (f : Option StepFault). IsSome f) none run.1 in absurd (cc)

is_whole : (network traffic : List ℕ) (turns drain : ℕ) (ending : Ending) (bytes : List ℕ)
    → IsReported network traffic turns drain ending bytes → ending.fault ≡ None
    → IsReported network traffic turns drain whole_run bytes
is_whole network traffic turns drain ending bytes reported none =
    let stopped = not_stopped reported.script turns drain reported.opening reported.closing ending.stopped ending.fault
    reported.run none in
    let same : ending ≡ whole_run = λ t. record { stopped = stopped t; fault = none t } in
    subst (λ (e : Ending). IsReported network traffic turns drain e bytes) same reported

no_fault : (fault : Option StepFault) → EndsForMemory fault → fault ≢ Some NoRoom → fault ≡ None
no_fault fault (inl none) no_want = none
no_fault fault (inr want) no_want = absurd (no_want want)

-- unless memory ran out in it, the report is the one that the texts have
one : (network traffic : List ℕ) (turns drain : ℕ) (ending : Ending) (bytes : List ℕ)
    → IsReported network traffic turns drain ending bytes → EndsForMemory ending.fault → ending.fault ≢ Some NoRoom
    → IsOneReport network traffic turns drain bytes
one network traffic turns drain ending bytes reported quiet had =
    let whole = is_whole network traffic turns drain ending bytes reported (no_fault ending.fault quiet had) in
    record { reported = whole; only = λ other also. one_report network traffic turns drain other bytes also whole }

part : (network traffic : List ℕ) (turns drain : ℕ) (ending : Ending) (out : Stream) (bytes : List ℕ)
    → IsReported network traffic turns drain ending bytes → EndsForMemory ending.fault → WritesFront out bytes
    → ReportsPart network traffic turns drain out
part network traffic turns drain ending out bytes reported quiet front = record {
  ending = ending;
  for_memory = quiet;
  bytes = bytes;
  reported = reported;
  one = one network traffic turns drain ending bytes reported quiet;
  written = front;
}

-- the run was ended by nothing but want of memory, and this was written of its report
pub reported_so : (network traffic : List ℕ) (turns drain : ℕ) (ending : Ending) (out : Stream) (bytes : List ℕ)
    (result : Result (Unit {0}) ProgramFault)
    → IsReported network traffic turns drain ending bytes → EndsForMemory ending.fault
    → WritesReport out ending.fault result bytes
    → MatchResult result (λ _. Reports network traffic turns drain out) (Fails network traffic turns drain out)
unfolding part
reported_so network traffic turns drain ending out bytes (Ok done) reported quiet writes = record {
  bytes = bytes;
  one = one network traffic turns drain ending bytes reported quiet writes.0;
  written = writes.1;
}
reported_so network traffic turns drain ending out bytes (Err f.NoMemory) reported quiet writes =
    inr record {
      part = part network traffic turns drain ending out bytes reported quiet writes.part;
      lines = writes.lines;
      short = writes.short;
    }
reported_so network traffic turns drain ending out bytes (Err f.Write) reported quiet writes =
    part network traffic turns drain ending out bytes reported quiet writes
reported_so network traffic turns drain ending out bytes (Err (f.Network t)) reported quiet writes = absurd writes
reported_so network traffic turns drain ending out bytes (Err (f.Traffic t)) reported quiet writes = absurd writes
reported_so network traffic turns drain ending out bytes (Err f.ReadNetwork) reported quiet writes = absurd writes
reported_so network traffic turns drain ending out bytes (Err f.ReadTraffic) reported quiet writes = absurd writes
reported_so network traffic turns drain ending out bytes (Err f.Workers) reported quiet writes = absurd writes
reported_so network traffic turns drain ending out bytes (Err (f.NotStarted w)) reported quiet writes = absurd writes
