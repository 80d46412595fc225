-- The line that the program says of a fault on the standard error, and the status that it ends with then.
use Rattle.std.specs.Prelude.{ℕ, List, ◌++◌, codes, decimal}
use Rattle.worm_text.specs.Faults.{words_of}
use Rattle.worm_alone.specs.declared.fault.ProgramFault.{ProgramFault}
use Rattle.worm_alone.specs.declared.fault.ProgramFault.TheVariants as f

abbrev pub line_of : ProgramFault → List ℕ
line_of f.Workers = codes "wormrun: more workers than nodes"
line_of (f.Network t) = codes "wormrun: network line " ++ (decimal t.line ++ (codes ": " ++ words_of t.why))
line_of (f.Traffic t) = codes "wormrun: traffic line " ++ (decimal t.line ++ (codes ": " ++ words_of t.why))
line_of f.ReadNetwork = codes "wormrun: cannot read network"
line_of f.ReadTraffic = codes "wormrun: cannot read traffic"
line_of f.NoMemory = codes "wormrun: out of memory"
line_of (f.NotStarted w) = codes "wormrun: worker " ++ (decimal w ++ codes " not started")
line_of f.Write = codes "wormrun: report not written"

abbrev pub status_of : ProgramFault → ℕ
status_of f.Workers = 2
status_of (f.Network t) = 3
status_of (f.Traffic t) = 4
status_of f.ReadNetwork = 5
status_of f.ReadTraffic = 5
status_of f.NoMemory = 6
status_of (f.NotStarted w) = 7
status_of f.Write = 8
