-- Why the words were not read.
use Rattle.std.specs.Prelude.{◌≡◌}
use Rattle.clap.specs.Values.{kind_of}
use Rattle.clap.specs.declared.error.Error.{Error}
use Rattle.clap.specs.declared.error.kind.ErrorKind.{ErrorKind}
use Rattle.clap.specs.declared.error.kind.ErrorKind.TheVariants as clap
use Rattle.std.specs.declared.io.ErrorKind.{ErrorKind as IoErrorKind}
use Rattle.std.specs.declared.io.ErrorKind.TheVariants as io
use Rattle.worm_words.specs.declared.words.WordsFault.{WordsFault}
use Rattle.worm_words.specs.declared.words.WordsFault.TheVariants as w

-- want of memory is answered as such, and anything else that the parser says as what it says
abbrev pub parser_fault : ErrorKind → Error → WordsFault
parser_fault clap.OutOfMemory error = w.NoMemory
parser_fault _ error = w.Words error

-- the list of words was not given: one is no text, unless there was no memory
abbrev pub list_fault : IoErrorKind → WordsFault
list_fault io.OutOfMemory = w.NoMemory
list_fault _ = w.NotText

-- a list of texts is refused by what the parser says of it, or for want of memory, which the parser does not say
abbrev pub IsNoCommand : WordsFault → Type 0
IsNoCommand (w.Words error) = ¬ (kind_of error ≡ clap.OutOfMemory)
IsNoCommand w.NotText = ⊥
IsNoCommand w.NoMemory = Unit {0}

-- before the parser has a list of texts it says nothing
abbrev pub IsNoList : WordsFault → Type 0
IsNoList (w.Words error) = ⊥
IsNoList w.NotText = Unit {0}
IsNoList w.NoMemory = Unit {0}
