-- What a network text is read as: its lines one after another, up to the first fault.
use Rattle.std.specs.Prelude.{◌≡◌, ℕ, suc, ◌+◌, ◌<◌, List, [], ◌∷◌, ◌++◌, length, Result, Ok, Err, All, ◌==◌, false}
use Rattle.std.specs.List.{AllByRecursion}
use Rattle.worm_text.specs.declared.fault.Why.{Why}
use Rattle.worm_text.specs.declared.fault.Why.TheVariants.{NoEnd, AfterEnd}
use Rattle.worm_text.specs.declared.fault.TextFault.{TextFault}
use Rattle.worm_text.specs.declared.format.Format.{Format}
use Rattle.worm_text.specs.Lines.{cut, newline, finished}
use Rattle.worm_text.specs.Network.{Network, Keeps, text}
use Rattle.worm_text.specs.Stages.{Stage, at_header, ended, judge}

abbrev pub at_line : ℕ → Why → TextFault
at_line line why = record { line = line; why = why }

-- behind the last line end stands this rest
abbrev pub at_end : Stage → ℕ → List ℕ → Result Network TextFault
at_end (ended f n) line [] = Ok n
at_end (ended f n) line (b ∷ bs) = Err (at_line line AfterEnd)
at_end stage line rest = Err (at_line line NoEnd)

-- the finished lines from this one on, and the rest behind them as the last piece
abbrev pub read : Stage → ℕ → List (List ℕ) → Result Network TextFault
read stage line [] = Err (at_line line NoEnd)
read stage line (rest ∷ []) = at_end stage line rest
read stage line (l ∷ next ∷ more) = elim (judge stage l) [
  | Ok behind ↦ read behind (suc line) (next ∷ more)
  | Err why ↦ Err (at_line line why)
]

-- A call returned this, seen by view.
abbrev pub Answers : {X Y : Type 0} → (X → Y) → Result X TextFault → Result Y TextFault → Type 0
Answers view (Ok x) read = read ≡ Ok (view x)
Answers view (Err fault) read = read ≡ Err fault

-- the whole text
abbrev pub network_of : List ℕ → Result Network TextFault
network_of bytes = read at_header 1 (cut newline bytes)

-- no line end within these lines
abbrev pub AreLines : List (List ℕ) → Type 0
AreLines lines = AllByRecursion (λ l. All (λ b. b == newline ≡ false) l) lines

-- The first k lines of the bytes are finished, and some accepted text begins with them.
pub record BeginsWell (bytes : List ℕ) (k : ℕ) : Type 0 where
  pub lines : List (List ℕ)
  pub are_lines : AreLines lines
  pub count : length lines ≡ k
  pub rest : List ℕ
  pub first : bytes ≡ finished lines ++ rest
  pub format : Format
  pub network : Network
  pub keeps : Keeps format network
  pub more : List ℕ
  pub accepted : text format network ≡ finished lines ++ more

-- One more than the longest run of finished lines with which some accepted text begins.
pub record IsFaultLine (bytes : List ℕ) (line : ℕ) : Type 0 where
  pub one_more : (before : ℕ) × (line ≡ before + 1) × BeginsWell bytes before
  pub longest : (k : ℕ) → BeginsWell bytes k → k < line
