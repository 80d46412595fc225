-- However the program ends, its status is one of those that it has.
use Rattle.std.proofs.Common.{◌≡◌, ◌≢◌, ◌≤◌, ◌⊎◌, ◌∙◌, ℕ, List, [], Result, Ok, Err, inl, inr, refl, sym, ap, subst}
use Rattle.std.proofs.Common.{arith}
use Rattle.clap.specs.Values.{kind_of}
use Rattle.clap.specs.Words.{IsAmong, Kinds, Row}
use Rattle.clap.specs.declared.error.kind.ErrorKind.{ErrorKind}
use Rattle.clap.specs.declared.error.kind.ErrorKind.TheVariants as clap
use Rattle.worm_view.specs.Commands.{IsRefused}
use Rattle.worm_view.specs.declared.fault.ViewFault.{ViewFault}
use Rattle.worm_view.specs.declared.fault.ViewFault.TheVariants as f
use Rattle.worm_view.specs.declared.words.WordsFault.{WordsFault}
use Rattle.worm_view.specs.declared.words.WordsFault.TheVariants as w
use Rattle.worm_view.specs.Faults.{EndsRefused, IsNoCommand, IsStatus, ended_status, kind_status, status_of}
use Rattle.worm_view.specs.Faults.{words_status}

between : (s : ℕ) → 2 ≤ s → s ≤ 6 → IsStatus s
between s low high = inr (inl (low, high))

of_fault : (fault : ViewFault) → IsStatus (status_of fault)
of_fault (f.Network t) = between 3 (omega arith) (omega arith)
of_fault (f.Report t) = between 4 (omega arith) (omega arith)
of_fault f.ReadNetwork = between 5 (omega arith) (omega arith)
of_fault f.ReadReport = between 5 (omega arith) (omega arith)
of_fault f.NoMemory = between 6 (omega arith) (omega arith)
of_fault f.Write = inr (inr refl)

pub of_ended : (s : ℕ) (ended : Result (Unit {0}) ViewFault) → s ≡ ended_status ended → IsStatus s
of_ended s (Ok _) is = inl is
of_ended s (Err fault) is = rw is (of_fault fault)

pub of_words : (s : ℕ) (fault : WordsFault) → s ≡ words_status fault → IsStatus s
of_words s (w.Asked answer) is = inl is
of_words s (w.Words error) is = rw is (between 2 (omega arith) (omega arith))
of_words s w.Both is = rw is (between 2 (omega arith) (omega arith))
of_words s w.NotText is = rw is (between 2 (omega arith) (omega arith))
of_words s w.NoMemory is = rw is (between 6 (omega arith) (omega arith))

-- a fault that asks for nothing is the user's
users_fault : (k : ErrorKind) → k ≢ clap.DisplayHelp → k ≢ clap.DisplayVersion → kind_status k ≡ 2
users_fault clap.DisplayHelp help version = absurd (help refl)
users_fault clap.DisplayVersion help version = absurd (version refl)
users_fault k help version = refl

asked_status : (k : ErrorKind) → (k ≡ clap.DisplayHelp) ⊎ (k ≡ clap.DisplayVersion) → kind_status k ≡ 0
asked_status k (inl help) = ap kind_status help
asked_status k (inr version) = ap kind_status version

-- words that the parser finds a fault in
pub of_refused : (s : ℕ) (kinds : Kinds) (rows : List Row) (fault : WordsFault) → s ≡ words_status fault
    → IsRefused kinds rows fault → IsNoCommand fault → kinds ≢ [] → EndsRefused kinds s
of_refused s kinds rows (w.Asked answer) is among asked some =
    inr (kind_of answer, among, is ∙ sym (asked_status (kind_of answer) asked))
of_refused s kinds rows (w.Words error) is among neither some =
    inr (kind_of error, among, is ∙ sym (users_fault (kind_of error) neither.1 neither.2))
of_refused s kinds rows w.Both is both asked some = absurd (some both.0)
of_refused s kinds rows w.NotText is bad asked some = absurd bad
of_refused s kinds rows w.NoMemory is want asked some = inl is

-- words without a fault there, which are refused even so
pub of_both : (s : ℕ) (kinds : Kinds) (rows : List Row) (fault : WordsFault) → s ≡ words_status fault
    → IsRefused kinds rows fault → kinds ≡ [] → (s ≡ 2) ⊎ (s ≡ 6)
of_both s kinds rows (w.Asked answer) is among none = absurd (subst (IsAmong (kind_of answer)) none among)
of_both s kinds rows (w.Words error) is among none = inl is
of_both s kinds rows w.Both is both none = inl is
of_both s kinds rows w.NotText is bad none = absurd bad
of_both s kinds rows w.NoMemory is want none = inr is
