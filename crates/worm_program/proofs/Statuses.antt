-- However the program ends, its status is one of those that it has.
use Rattle.std.proofs.Common.{◌≡◌, ◌≤◌, ◌⊎◌, ℕ, Result, Ok, Err, inl, inr, arith}
use Rattle.worm_alone.specs.declared.fault.ProgramFault.{ProgramFault}
use Rattle.worm_alone.specs.declared.fault.ProgramFault.TheVariants as f
use Rattle.worm_words.specs.declared.words.WordsFault.{WordsFault}
use Rattle.worm_words.specs.declared.words.WordsFault.TheVariants as w
use Rattle.worm_alone.specs.Faults.{status_of}
use Rattle.worm_program.specs.Statuses.{IsStatus, ended_status, words_status}

between : (s : ℕ) → 2 ≤ s → s ≤ 8 → IsStatus s
between s low high = inr (low, high)

of_fault : (fault : ProgramFault) → IsStatus (status_of fault)
of_fault f.Workers = between 2 (omega arith) (omega arith)
of_fault (f.Network t) = between 3 (omega arith) (omega arith)
of_fault (f.Traffic t) = between 4 (omega arith) (omega arith)
of_fault f.ReadNetwork = between 5 (omega arith) (omega arith)
of_fault f.ReadTraffic = between 5 (omega arith) (omega arith)
of_fault f.NoMemory = between 6 (omega arith) (omega arith)
of_fault (f.NotStarted n) = between 7 (omega arith) (omega arith)
of_fault f.Write = between 8 (omega arith) (omega arith)

pub of_ended : (s : ℕ) (ended : Result (Unit {0}) ProgramFault) → s ≡ ended_status ended → IsStatus s
of_ended s (Ok _) is = inl is
of_ended s (Err fault) is = rw is (of_fault fault)

-- words that are refused, or for which there is no memory
pub of_refused : (s : ℕ) (fault : WordsFault) → s ≡ words_status fault → (s ≡ 2) ⊎ (s ≡ 6)
of_refused s (w.Words error) is = inl is
of_refused s w.NotText is = inl is
of_refused s w.NoMemory is = inr is

pub of_words : (s : ℕ) (fault : WordsFault) → s ≡ words_status fault → IsStatus s
of_words s (w.Words error) is = rw is (between 2 (omega arith) (omega arith))
of_words s w.NotText is = rw is (between 2 (omega arith) (omega arith))
of_words s w.NoMemory is = rw is (between 6 (omega arith) (omega arith))

-- what the status of a call that ends the program tells
pub ruleset statuses = (of_ended, of_words, of_refused)
