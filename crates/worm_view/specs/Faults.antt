-- The line that the program says of a fault on the standard error, and the status that it ends with.
use Rattle.std.specs.Prelude.{◌≡◌, ◌≢◌, ◌≤◌, ◌⊎◌, ℕ, List, ◌++◌, codes, decimal, Result, Ok, Err}
use Rattle.clap.specs.Values.{kind_of}
use Rattle.clap.specs.Words.{IsAmong, Kinds}
use Rattle.clap.specs.declared.error.Error.{Error}
use Rattle.clap.specs.declared.error.kind.ErrorKind.{ErrorKind}
use Rattle.clap.specs.declared.error.kind.ErrorKind.TheVariants as clap
use Rattle.std.specs.declared.io.ErrorKind.{ErrorKind as IoErrorKind}
use Rattle.std.specs.declared.io.ErrorKind.TheVariants as io
use Rattle.worm_text.specs.Faults.{words_of}
use Rattle.worm_view.specs.declared.fault.ViewFault.{ViewFault}
use Rattle.worm_view.specs.declared.fault.ViewFault.TheVariants as f
use Rattle.worm_view.specs.declared.words.WordsFault.{WordsFault}
use Rattle.worm_view.specs.declared.words.WordsFault.TheVariants as w

abbrev pub line_of : ViewFault → List ℕ
line_of (f.Network t) = codes "wormview: network line " ++ (decimal t.line ++ (codes ": " ++ words_of t.why))
line_of (f.Report t) = codes "wormview: report line " ++ (decimal t.line ++ (codes ": " ++ words_of t.why))
line_of f.ReadNetwork = codes "wormview: cannot read network"
line_of f.ReadReport = codes "wormview: cannot read report"
line_of f.NoMemory = codes "wormview: out of memory"
line_of f.Write = codes "wormview: picture not written"

abbrev pub status_of : ViewFault → ℕ
status_of (f.Network t) = 3
status_of (f.Report t) = 4
status_of f.ReadNetwork = 5
status_of f.ReadReport = 5
status_of f.NoMemory = 6
status_of f.Write = 8

-- 0 where the whole picture is out
abbrev pub ended_status : Result (Unit {0}) ViewFault → ℕ
ended_status (Ok _) = 0
ended_status (Err fault) = status_of fault

-- whatever the words and texts are, the program ends with 0 or with the status of a fault; 7 is no status of it
abbrev pub IsStatus : ℕ → Type 0
IsStatus status = (status ≡ 0) ⊎ (((2 ≤ status) × (status ≤ 6)) ⊎ (status ≡ 8))

-- help and version were asked for; words that are not those that the program knows, or no text, are the user's fault
abbrev pub words_status : WordsFault → ℕ
words_status (w.Asked answer) = 0
words_status (w.Words error) = 2
words_status w.Both = 2
words_status w.NotText = 2
words_status w.NoMemory = 6

-- the status of words with a fault of this kind: help and the version are answers, and anything else is the user's
-- fault
abbrev pub kind_status : ErrorKind → ℕ
kind_status clap.DisplayHelp = 0
kind_status clap.DisplayVersion = 0
kind_status _ = 2

-- words with these kinds of fault end with the status of one of them, or memory ran out
abbrev pub EndsRefused : Kinds → ℕ → Type 0
EndsRefused kinds status = (status ≡ 6) ⊎ ((kind : ErrorKind) × IsAmong kind kinds × (status ≡ kind_status kind))

-- want of memory is answered as such, help and the version where they are asked for, and anything else that the parser
-- says as what it says
abbrev pub parser_fault : ErrorKind → Error → WordsFault
parser_fault clap.OutOfMemory error = w.NoMemory
parser_fault clap.DisplayHelp error = w.Asked error
parser_fault clap.DisplayVersion error = w.Asked error
parser_fault _ error = w.Words error

-- the list of words was not given: one is no text, unless there was no memory
abbrev pub list_fault : IoErrorKind → WordsFault
list_fault io.OutOfMemory = w.NoMemory
list_fault _ = w.NotText

-- a list of texts is refused by what the parser says of it, for two forms at once, or for want of memory, which the
-- parser does not say; help and the version are said where they were asked for, and nowhere else
abbrev pub IsNoCommand : WordsFault → Type 0
IsNoCommand (w.Asked answer) = (kind_of answer ≡ clap.DisplayHelp) ⊎ (kind_of answer ≡ clap.DisplayVersion)
IsNoCommand (w.Words error) =
    (kind_of error ≢ clap.OutOfMemory) × (kind_of error ≢ clap.DisplayHelp) × (kind_of error ≢ clap.DisplayVersion)
IsNoCommand w.Both = Unit {0}
IsNoCommand w.NotText = ⊥
IsNoCommand w.NoMemory = Unit {0}

-- before the parser has a list of texts it says nothing
abbrev pub IsNoList : WordsFault → Type 0
IsNoList (w.Asked answer) = ⊥
IsNoList (w.Words error) = ⊥
IsNoList w.Both = ⊥
IsNoList w.NotText = Unit {0}
IsNoList w.NoMemory = Unit {0}
