-- What a writer was given of a text.
use Rattle.std.specs.Prelude.{◌≡◌, ◌≢◌, ℕ, List, [], ◌++◌, Option, Result, OnOk, OnErr, IfErr}
use Rattle.std.specs.Borrow.{GName}
use Rattle.std.specs.Io.KnownBytes.{Appends}
use Rattle.worm_report.specs.declared.row.Row.{Row}
use Rattle.worm_report.specs.declared.summary.ReportFault.{ReportFault}
use Rattle.worm_report.specs.declared.summary.ReportFault.TheVariants.{NoMemory, Write}
use Rattle.worm_report.specs.declared.writing.Desk.{Desk}
use Rattle.worm_report.specs.Rows.{rows_text}

-- a first part of these bytes, and where there was no fault all of them; no fault but the writer's ends it
pub record Writes (old new : Option (List ℕ)) (result : Result (Unit {0}) ReportFault) (bytes : List ℕ) : Type 0 where
  pub front : List ℕ
  pub rest : List ℕ
  pub whole : bytes ≡ front ++ rest
  pub given : Appends old new front
  pub all : OnOk result (rest ≡ [])
  pub fault : IfErr result (λ fault. fault ≡ Write)

-- whole lines of a report
abbrev pub AreLines : List ℕ → Type 0
AreLines bytes = (rows : List Row) × (bytes ≡ rows_text rows)

-- A first part of a report, and where there was no fault all of it. Where memory ran out not all of it, but whole lines
-- of it: so the writer had taken all that it was given.
pub record WritesLines (old new : Option (List ℕ)) (result : Result (Unit {0}) ReportFault) (bytes : List ℕ)
    : Type 0 where
  pub front : List ℕ
  pub rest : List ℕ
  pub whole : bytes ≡ front ++ rest
  pub given : Appends old new front
  pub all : OnOk result (rest ≡ [])
  pub more : IfErr result (λ fault. fault ≡ NoMemory → (rest ≢ []) × AreLines front)

-- Where a desk stands: what its writer was given, the lines that wait for it, and the name of the reference to it.
pub record Standing : Type 0 where
  pub given : Option (List ℕ)
  pub page : List ℕ
  pub writer : GName

abbrev pub standing : {W : Type 0} → (W → Option (List ℕ)) → Desk W → Standing
standing contents desk = record { given = contents desk.out.now; page = desk.page; writer = desk.out.ghost_name }

-- these bytes, and then the lines of some rows, are those
abbrev pub MakesLines : List ℕ → List ℕ → Type 0
MakesLines before after = (made : List Row) × (before ++ rows_text made ≡ after)

-- The lines of these rows come behind those on the page: a first part of them all was given, what follows is on
-- the page now, and where there was no fault that is the rest. Where memory ran out each line was made whole.
pub record WritesRows (old new : Standing) (result : Result (Unit {0}) ReportFault) (rows : List Row) : Type 0 where
  pub front : List ℕ
  pub rest : List ℕ
  pub whole : old.page ++ rows_text rows ≡ front ++ new.page ++ rest
  pub given : Appends old.given new.given front
  pub same : new.writer ≡ old.writer
  pub all : OnOk result (rest ≡ [])
  pub lines : IfErr result (λ fault. fault ≡ NoMemory → MakesLines old.page (front ++ new.page))

-- the same, and where there was a fault a line at least is still to come
pub record WritesOrBreaksOff (old new : Standing) (result : Result (Unit {0}) ReportFault) (rows : List Row)
    : Type 0 where
  pub written : WritesRows old new result rows
  pub more : OnErr result (written.rest ≢ [])

-- what a call made of a desk, by the member that says what a writer was given
abbrev pub PutsRows : {W : Type 0} → (W → Option (List ℕ)) → Desk W → Desk W → Result (Unit {0}) ReportFault
    → List Row → Type 0
PutsRows contents old new result rows = WritesRows (standing contents old) (standing contents new) result rows

abbrev pub PutsOrBreaksOff : {W : Type 0} → (W → Option (List ℕ)) → Desk W → Desk W
    → Result (Unit {0}) ReportFault → List Row → Type 0
PutsOrBreaksOff contents old new result rows =
    WritesOrBreaksOff (standing contents old) (standing contents new) result rows
