-- No rule of a report says want of memory, so a refused report is never told so.
use Rattle.std.proofs.Common.{◌≡◌, ◌≢◌, ℕ, suc, ◌+◌, Bool, true, false, ◌&&◌, cond, eqb, leb, ltb, List, [], ◌∷◌, ◌++◌}
use Rattle.std.proofs.Common.{length, Result, Ok, Err, refl, subst}
use Rattle.std.specs.Prelude.{codes}
use Rattle.std.specs.Str.{bytes_eq}
use Rattle.worm_mesh.specs.Address.{node_count, has_neighbour}
use Rattle.worm_text.specs.declared.fault.Why.{Why}
use Rattle.worm_text.specs.declared.fault.Why.TheVariants.{Missing, Number, Range, Repeated, UnknownWord, TooMany}
use Rattle.worm_text.specs.declared.fault.Why.TheVariants.{NoEnd, AfterEnd, NoMemory}
use Rattle.worm_text.specs.declared.fault.TextFault.{TextFault}
use Rattle.worm_text.specs.Lines.{cut, space, newline}
use Rattle.worm_text.specs.Numerals.{is_numeral, value_of}
use Rattle.worm_text.specs.Reading.{◌>>=◌, checked, number_at, word_at, no_more}
use Rattle.worm_text.specs.Reader.{at_line}
use Rattle.worm_text.proofs.Binds.{fine, fault}
use Rattle.worm_rows.specs.declared.shape.Shape.{Shape}
use Rattle.worm_rows.specs.declared.standing.Standing.{Standing}
use Rattle.worm_rows.specs.declared.rows.Row.{Row}
use Rattle.worm_rows.specs.declared.rows.Row.TheVariants.{Header, Options, Stopped, Delivered, Underway, NotOffered}
use Rattle.worm_rows.specs.declared.rows.Row.TheVariants.{Total}
use Rattle.worm_rows.specs.Rules.{has_buffer, rank, latest, listed, behind, at_start}
use Rattle.worm_rows.specs.Reading.{any_at, below_at, named_at, packet_at, buffer_at, link_at, place_at, load_word_at}
use Rattle.worm_rows.specs.Reading.{load_at, header_at, options_at, stopped_at, delivered_at, underway_at}
use Rattle.worm_rows.specs.Reading.{not_offered_at, total_at, row_at, fits_at, admits, judge}
use Rattle.worm_rows.specs.Report.{at_end, read, report_of}

abbrev Fields : Type 0
Fields = List (List ℕ)

-- ---- steps that may fail

-- it is not want of memory by which the step failed, if it did
record TellsOther {A : Type 0} (r : Result A Why) : Type 0 where
  other : (why : Why) → r ≡ fault why → why ≢ NoMemory

same_why : {A : Type 0} (v w : Why) → fault {A = A} v ≡ fault w → v ≡ w
same_why v w e = cc

done : {A : Type 0} {x : A} → TellsOther (fine x)
done = record { other = λ why e. absurd cc }

failed : {A : Type 0} (why : Why) → why ≢ NoMemory → TellsOther {A = A} (fault why)
failed {A = A} why other = record {
  other = λ w e. subst (λ (v : Why). v ≢ NoMemory) (same_why {A = A} why w e) other;
}

after : {A B : Type 0} {r : Result A Why} {f : A → Result B Why} → TellsOther r → ((x : A) → TellsOther (f x))
    → TellsOther (r >>= f)
after {r = Ok x} here then = then x
after {r = Err why} here then = failed why (here.other why refl)

tested : {A : Type 0} (test : Bool) (why : Why) (x : A) → why ≢ NoMemory → TellsOther (checked test why x)
tested true why x other = done
tested false why x other = failed why other

either : {A : Type 0} {r s : Result A Why} (test : Bool) → TellsOther r → TellsOther s → TellsOther (cond test r s)
either true first second = first
either false first second = second

not_missing : Missing ≢ NoMemory
not_missing e = absurd cc

not_number : Number ≢ NoMemory
not_number e = absurd cc

not_range : Range ≢ NoMemory
not_range e = absurd cc

not_repeated : Repeated ≢ NoMemory
not_repeated e = absurd cc

not_word : UnknownWord ≢ NoMemory
not_word e = absurd cc

not_many : TooMany ≢ NoMemory
not_many e = absurd cc

not_end : NoEnd ≢ NoMemory
not_end e = absurd cc

not_behind : AfterEnd ≢ NoMemory
not_behind e = absurd cc

-- ---- fields

number_tells : (low high : ℕ) (fields : Fields) → TellsOther (number_at low high fields)
number_tells low high [] = failed Missing not_missing
number_tells low high (f ∷ fs) =
    either (is_numeral f) (either (leb low (value_of f) && leb (value_of f) high) done (failed Range not_range))
    (failed Number not_number)

word_tells : (word : List ℕ) (fields : Fields) → TellsOther (word_at word fields)
word_tells word [] = failed Missing not_missing
word_tells word (f ∷ fs) = either (bytes_eq f word) done (failed UnknownWord not_word)

all_tells : (fields : Fields) → TellsOther (no_more fields)
all_tells [] = done
all_tells (f ∷ fs) = failed TooMany not_many

any_tells : (fields : Fields) → TellsOther (any_at fields)
any_tells fields = number_tells 0 4294967295 fields

below_tells : (limit : ℕ) (fields : Fields) → TellsOther (below_at limit fields)
unfolding below_at
below_tells limit fields = after (any_tells fields) (λ n. tested (ltb n.0 limit) Range n not_range)

named_tells : (word : List ℕ) (fields : Fields) → TellsOther (named_at word fields)
unfolding named_at
named_tells word fields = after (word_tells word fields) (λ rest. any_tells rest)

packet_tells : (s : Shape) (src dst : ℕ) (fields : Fields) → TellsOther (packet_at s src dst fields)
unfolding packet_at
packet_tells s src dst fields =
    after (word_tells (codes "class") fields)
    (λ a. after (below_tells s.classes a)
    (λ class. after (word_tells (codes "packet") class.1)
    (λ b. after (below_tells 65536 b) (λ number. done))))

buffer_tells : (s : Shape) (fields : Fields) → TellsOther (buffer_at s fields)
unfolding buffer_at
buffer_tells s fields =
    after (below_tells (node_count s.mesh) fields)
    (λ node. after (below_tells 256 node.1)
    (λ port. after (tested (has_buffer s.mesh node.0 port.0) Range port not_range)
    (λ _. after (below_tells s.vcs port.1) (λ vc. after (all_tells vc.1) (λ _. done)))))

link_tells : (s : Shape) (fields : Fields) → TellsOther (link_at s fields)
unfolding link_at
link_tells s fields =
    after (below_tells (node_count s.mesh) fields)
    (λ node. after (below_tells 256 node.1)
    (λ port. after (tested (has_neighbour s.mesh node.0 port.0) Range port not_range)
    (λ _. after (below_tells s.vcs port.1) (λ vc. after (all_tells vc.1) (λ _. done)))))

place_tells : (s : Shape) (fields : Fields) → TellsOther (place_at s fields)
unfolding place_at
place_tells s [] = failed Missing not_missing
place_tells s (f ∷ fs) =
    either (bytes_eq f (codes "source")) (after (all_tells fs) (λ _. done))
    (either (bytes_eq f (codes "buffer")) (buffer_tells s fs)
    (either (bytes_eq f (codes "link")) (link_tells s fs) (failed UnknownWord not_word)))

load_word_tells : (fields : Fields) → TellsOther (load_word_at fields)
unfolding load_word_at
load_word_tells fields =
    after (below_tells 32 fields)
    (λ index. after (named_tells (codes "word") index.1) (λ word. after (all_tells word.1) (λ _. done)))

load_tells : (fields : Fields) → TellsOther (load_at fields)
unfolding load_at
load_tells [] = failed Missing not_missing
load_tells (f ∷ fs) =
    either (bytes_eq f (codes "close")) (after (all_tells fs) (λ _. done))
    (either (bytes_eq f (codes "flit")) (load_word_tells fs) (failed UnknownWord not_word))

-- ---- rows

header_tells : (fields : Fields) → TellsOther (header_at fields)
unfolding header_at
header_tells fields = after (number_tells 1 1 fields) (λ version. after (all_tells version.1) (λ _. done))

options_tells : (fields : Fields) → TellsOther (options_at fields)
unfolding options_at
options_tells fields =
    after (any_tells fields)
    (λ turns. after (named_tells (codes "workers") turns.1)
    (λ workers. after (named_tells (codes "drain") workers.1) (λ drain. after (all_tells drain.1) (λ _. done))))

stopped_tells : (fields : Fields) → TellsOther (stopped_at fields)
unfolding stopped_at
stopped_tells fields =
    after (named_tells (codes "worker") fields)
    (λ worker. after (named_tells (codes "turn") worker.1) (λ turn. after (all_tells turn.1) (λ _. done)))

delivered_tells : (s : Shape) (fields : Fields) → TellsOther (delivered_at s fields)
unfolding delivered_at
delivered_tells s fields =
    after (below_tells (node_count s.mesh) fields)
    (λ dst. after (word_tells (codes "from") dst.1)
    (λ a. after (below_tells (node_count s.mesh) a)
    (λ src. after (packet_tells s src.0 dst.0 src.1) (λ packet. after (load_tells packet.1) (λ load. done)))))

underway_tells : (s : Shape) (fields : Fields) → TellsOther (underway_at s fields)
unfolding underway_at
underway_tells s fields =
    after (below_tells (node_count s.mesh) fields)
    (λ src. after (below_tells (node_count s.mesh) src.1)
    (λ dst. after (packet_tells s src.0 dst.0 dst.1)
    (λ packet. after (word_tells (codes "flit") packet.1)
    (λ a. after (below_tells 32 a) (λ index. after (place_tells s index.1) (λ place. done))))))

not_offered_tells : (fields : Fields) → TellsOther (not_offered_at fields)
unfolding not_offered_at
not_offered_tells fields =
    after (named_tells (codes "offered") fields) (λ entries. after (all_tells entries.1) (λ _. done))

total_tells : (fields : Fields) → TellsOther (total_at fields)
unfolding total_at
total_tells fields =
    after (named_tells (codes "injected") fields)
    (λ injected. after (named_tells (codes "delivered") injected.1)
    (λ delivered. after (named_tells (codes "underway") delivered.1)
    (λ underway. after (tested (eqb injected.0 (delivered.0 + underway.0)) Range underway not_range)
    (λ _. after (all_tells underway.1) (λ _. done)))))

row_tells : (s : Shape) (fields : Fields) → TellsOther (row_at s fields)
unfolding row_at
row_tells s [] = failed Missing not_missing
row_tells s (f ∷ fs) =
    either (bytes_eq f (codes "wormreport")) (header_tells fs)
    (either (bytes_eq f (codes "turns")) (options_tells fs)
    (either (bytes_eq f (codes "stopped")) (stopped_tells fs)
    (either (bytes_eq f (codes "delivered")) (delivered_tells s fs)
    (either (bytes_eq f (codes "underway")) (underway_tells s fs)
    (either (bytes_eq f (codes "not")) (not_offered_tells fs)
    (either (bytes_eq f (codes "total")) (total_tells fs) (failed UnknownWord not_word)))))))

fits_tells : (t : Standing) (row : Row) → TellsOther (fits_at t row)
unfolding fits_at
fits_tells t Header = done
fits_tells t (Options a b c) = done
fits_tells t (Stopped a b) = tested (ltb (listed t) 1000000) TooMany (Stopped a b) not_many
fits_tells t (Delivered p l) = tested (ltb (listed t) 1000000) TooMany (Delivered p l) not_many
fits_tells t (Underway p i l) = tested (ltb (listed t) 1000000) TooMany (Underway p i l) not_many
fits_tells t (NotOffered n) = done
fits_tells t (Total d u) = tested (eqb d t.delivered && eqb u t.underway) Range (Total d u) not_range

admits_tells : (t : Standing) (row : Row) → TellsOther (admits t row)
unfolding admits
admits_tells t row =
    after (tested (leb t.next (rank row)) Repeated row not_repeated)
    (λ _. after (tested (leb (rank row) (latest t.next)) Missing row not_missing) (λ _. fits_tells t row))

judge_tells : (s : Shape) (t : Standing) (l : List ℕ) → TellsOther (judge s t l)
unfolding judge
judge_tells s t l =
    after (tested (ltb t.next 7) AfterEnd l not_behind)
    (λ _. after (row_tells s (cut space l)) (λ row. admits_tells t row))

-- ---- the text

-- it is not want of memory for which the text is refused, if it is
abbrev TextTells : Result (List Row) TextFault → Type 0
TextTells (Ok rows) = Unit {0}
TextTells (Err x) = x.why ≢ NoMemory

end_tells : (t : Standing) (rows : List Row) (line : ℕ) (rest : List ℕ) → TextTells (at_end t rows line rest)
end_tells t rows line rest = by_tests (eqb t.next 7) (eqb (length rest) 0)
  where
    by_tests : (all none : Bool)
        → TextTells (cond all (cond none (Ok rows) (Err (at_line line AfterEnd))) (Err (at_line line NoEnd)))
    by_tests true true = tt
    by_tests true false = not_behind
    by_tests false none = not_end

step : (s : Shape) (t : Standing) (rows : List Row) (line : ℕ) (next : List ℕ) (more : List (List ℕ))
    → ((row : Row) → TextTells (read s (behind t row) (rows ++ row ∷ []) (suc line) (next ∷ more)))
    → (r : Result Row Why) → TellsOther r
    → TextTells (elim r as (λ _. Result (List Row) TextFault) [
      | Ok row ↦ read s (behind t row) (rows ++ row ∷ []) (suc line) (next ∷ more)
      | Err why ↦ Err (at_line line why)
    ])
step s t rows line next more again (Ok row) tells = again row
step s t rows line next more again (Err why) tells = tells.other why refl

read_tells : (s : Shape) (t : Standing) (rows : List Row) (line : ℕ) (pieces : List (List ℕ))
    → TextTells (read s t rows line pieces)
read_tells s t rows line [] = not_end
read_tells s t rows line (p ∷ []) = end_tells t rows line p
read_tells s t rows line (l ∷ next ∷ more) =
    step s t rows line next more
    (λ row. read_tells s (behind t row) (rows ++ row ∷ []) (suc line) (next ∷ more))
    (judge s t l) (judge_tells s t l)

pub no_want : (s : Shape) (bytes : List ℕ) (x : TextFault)
    → ◌≡◌ {A = Result (List Row) TextFault} (report_of s bytes) (Err x) → x.why ≢ NoMemory
no_want s bytes x is = subst TextTells is (read_tells s at_start [] 1 (cut newline bytes))
