-- What a report's text is read as, line after line, and at which line it is refused.
use Rattle.std.specs.Prelude.{◌≡◌, ℕ, suc, ◌+◌, ◌<◌, ◌≤◌, List, [], ◌∷◌, ◌++◌, length, Result, Ok, Err, ◌⊎◌, ◌==◌}
use Rattle.std.specs.Prelude.{if◌then◌else◌}
use Rattle.worm_text.specs.declared.fault.Why.TheVariants.{NoEnd, AfterEnd, NoMemory}
use Rattle.worm_text.specs.declared.fault.TextFault.{TextFault}
use Rattle.worm_text.specs.Lines.{cut, newline}
use Rattle.worm_text.specs.Reader.{at_line}
use Rattle.worm_rows.specs.declared.shape.Shape.{Shape}
use Rattle.worm_rows.specs.declared.standing.Standing.{Standing}
use Rattle.worm_rows.specs.declared.rows.Row.{Row}
use Rattle.worm_rows.specs.Rows.{rows_text}
use Rattle.worm_rows.specs.Rules.{IsReport, at_start, behind}
use Rattle.worm_rows.specs.Reading.{judge}

-- behind the last line end stands this rest
abbrev pub at_end : Standing → List Row → ℕ → List ℕ → Result (List Row) TextFault
at_end t rows line rest =
    if t.next == 7 then (if length rest == 0 then Ok rows else Err (at_line line AfterEnd))
    else Err (at_line line NoEnd)

-- the rows so far, the finished lines from this one on, and the rest behind them as the last piece
abbrev pub read : Shape → Standing → List Row → ℕ → List (List ℕ) → Result (List Row) TextFault
read s t rows line [] = Err (at_line line NoEnd)
read s t rows line (rest ∷ []) = at_end t rows line rest
read s t rows line (l ∷ next ∷ more) = elim (judge s t l) [
  | Ok row ↦ read s (behind t row) (rows ++ row ∷ []) (suc line) (next ∷ more)
  | Err why ↦ Err (at_line line why)
]

-- the whole text
abbrev pub report_of : Shape → List ℕ → Result (List Row) TextFault
report_of s bytes = read s at_start [] 1 (cut newline bytes)

-- The bytes begin with k finished lines, which are those of the first k rows of some report.
pub record BeginsReport (s : Shape) (bytes : List ℕ) (k : ℕ) : Type 0 where
  pub rows : List Row
  pub count : length rows ≡ k
  pub rest : List ℕ
  pub first : bytes ≡ rows_text rows ++ rest
  pub more : List Row
  pub accepted : IsReport s (rows ++ more)

-- One more than the longest run of finished lines with which some report begins.
pub record IsReportFaultLine (s : Shape) (bytes : List ℕ) (line : ℕ) : Type 0 where
  pub one_more : (before : ℕ) × (line ≡ before + 1) × BeginsReport s bytes before
  pub longest : (k : ℕ) → BeginsReport s bytes k → k < line

-- Memory ran out at the line of a row, the first or a later one.
pub record RanOut (s : Shape) (bytes : List ℕ) (fault : TextFault) : Type 0 where
  pub why : fault.why ≡ NoMemory
  pub some : 1 ≤ fault.line
  pub line : BeginsReport s bytes fault.line

-- A call answered this, seen by view, unless memory ran out.
abbrev pub AnswersOrFull : {X Y : Type 0} → (X → Y) → (TextFault → Type 0) → Result X TextFault → Result Y TextFault
    → Type 0
AnswersOrFull view Full (Ok x) answer = answer ≡ Ok (view x)
AnswersOrFull view Full (Err fault) answer = Full fault ⊎ (answer ≡ Err fault)
