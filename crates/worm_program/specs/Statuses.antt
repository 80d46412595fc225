-- The status that the program ends with.
use Rattle.std.specs.Prelude.{◌≡◌, ◌≤◌, ◌⊎◌, ℕ, Result, Ok, Err}
use Rattle.worm_alone.specs.Faults.{status_of}
use Rattle.worm_alone.specs.declared.fault.ProgramFault.{ProgramFault}
use Rattle.worm_words.specs.declared.words.WordsFault.{WordsFault}
use Rattle.worm_words.specs.declared.words.WordsFault.TheVariants as w

-- 0 where the whole report is out
abbrev pub ended_status : Result (Unit {0}) ProgramFault → ℕ
ended_status (Ok _) = 0
ended_status (Err fault) = status_of fault

-- whatever the words and texts are, the program ends with 0 or with the status of a fault
abbrev pub IsStatus : ℕ → Type 0
IsStatus status = (status ≡ 0) ⊎ ((2 ≤ status) × (status ≤ 8))

-- words that are not those that the program knows, or no text, are the user's fault
abbrev pub words_status : WordsFault → ℕ
words_status (w.Words error) = 2
words_status w.NotText = 2
words_status w.NoMemory = 6
