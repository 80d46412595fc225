-- No rule of a traffic text says want of memory, so a refused text is never told so.
use Rattle.std.proofs.Common.{◌≡◌, ◌≢◌, ℕ, suc, ◌-◌, Bool, true, false, ◌&&◌, cond, eqb, leb, ltb, List, [], ◌∷◌, ◌++◌}
use Rattle.std.proofs.Common.{length, get_or, Option, Some, None, Result, Ok, Err, subst}
use Rattle.std.specs.Prelude.{not, codes}
use Rattle.std.specs.Str.{bytes_eq}
use Rattle.std.specs.List.{position_or_len}
use Rattle.worm_flit.specs.declared.Lane.{Lane}
use Rattle.worm_term.specs.Lanes.{lane_of}
use Rattle.worm_mesh.specs.Address.{node_count}
use Rattle.worm_text.specs.declared.fault.Why.{Why}
use Rattle.worm_text.specs.declared.fault.Why.TheVariants.{Header, Missing, Number, Range, Name, UnknownWord}
use Rattle.worm_text.specs.declared.fault.Why.TheVariants.{OrderOfTurns, LaneClosed, TooMany, ManyChannels, NoEnd}
use Rattle.worm_text.specs.declared.fault.Why.TheVariants.{AfterEnd, NoMemory}
use Rattle.worm_text.specs.declared.fault.TextFault.{TextFault}
use Rattle.worm_text.specs.Lines.{cut, space, newline}
use Rattle.worm_text.specs.Numerals.{is_numeral, value_of}
use Rattle.worm_text.specs.Network.{Network}
use Rattle.worm_text.specs.Reading.{◌>>=◌, checked, number_at, no_more}
use Rattle.worm_text.specs.Reader.{at_line}
use Rattle.worm_text.specs.Traffic.{Said, send, close, is_closed, last_turn, class_at, turn_at, lane_at, words_at}
use Rattle.worm_text.specs.Traffic.{is_open, send_at, close_at, entry_at, after_end, read_entries, read_header}
use Rattle.worm_text.specs.Traffic.{traffic_of}
use Rattle.worm_text.proofs.Binds.{fine, fault}

-- Steps that may fail

-- it is not want of memory by which the step failed, if it did
abbrev Wants : {A : Type 0} → Result A Why → Type 0
Wants (Ok x) = Unit {0}
Wants (Err why) = why ≢ NoMemory

after : {A B : Type 0} (r : Result A Why) (f : A → Result B Why) → Wants r → ((x : A) → Wants (f x)) → Wants (r >>= f)
after (Ok x) f here then = then x
after (Err why) f here then = here

tested : {A : Type 0} (test : Bool) (why : Why) (x : A) → why ≢ NoMemory → Wants (checked test why x)
tested true why x other = tt
tested false why x other = other

either : {A : Type 0} (test : Bool) (r s : Result A Why) → Wants r → Wants s → Wants (cond test r s)
either true r s first second = first
either false r s first second = second

not_header : Header ≢ NoMemory
not_header e = absurd cc

not_missing : Missing ≢ NoMemory
not_missing e = absurd cc

not_number : Number ≢ NoMemory
not_number e = absurd cc

not_range : Range ≢ NoMemory
not_range e = absurd cc

not_name : Name ≢ NoMemory
not_name e = absurd cc

not_word : UnknownWord ≢ NoMemory
not_word e = absurd cc

not_turn : OrderOfTurns ≢ NoMemory
not_turn e = absurd cc

not_closed : LaneClosed ≢ NoMemory
not_closed e = absurd cc

not_many : TooMany ≢ NoMemory
not_many e = absurd cc

not_channels : ManyChannels ≢ NoMemory
not_channels e = absurd cc

not_end : NoEnd ≢ NoMemory
not_end e = absurd cc

not_behind : AfterEnd ≢ NoMemory
not_behind e = absurd cc

-- Fields

number_wants : (low high : ℕ) (fields : List (List ℕ)) → Wants (number_at low high fields)
number_wants low high [] = not_missing
number_wants low high (f ∷ fs) =
    let within = leb low (value_of f) && leb (value_of f) high in
    either (is_numeral f) (cond within (fine (value_of f, fs)) (fault Range)) (fault Number)
    (either within (fine (value_of f, fs)) (fault Range) tt not_range) not_number

class_wants : (names fields : List (List ℕ)) → Wants (class_at names fields)
class_wants names [] = not_missing
class_wants names (f ∷ fs) =
    let at = position_or_len (λ name. bytes_eq name f) names in
    either (ltb at (length names)) (fine (at, fs)) (fault Name) tt not_name

no_more_wants : (fields : List (List ℕ)) → Wants (no_more fields)
no_more_wants [] = tt
no_more_wants (f ∷ fs) = not_many

turn_wants : (last : ℕ) (fields : List (List ℕ)) → Wants (turn_at last fields)
unfolding turn_at
turn_wants last fields =
    after (number_at 0 1000000 fields) (λ turn. checked (leb last turn.0) OrderOfTurns turn)
    (number_wants 0 1000000 fields) (λ turn. tested (leb last turn.0) OrderOfTurns turn not_turn)

lane_wants : (n : Network) (fields : List (List ℕ)) → Wants (lane_at n fields)
unfolding lane_at
lane_wants n fields =
    let high = node_count n.radices - 1 in
    after (number_at 0 high fields) (λ src. number_at 0 high src.1 >>= λ dst. class_at n.classes dst.1 >>=
    λ class. Ok (lane_of src.0 dst.0 class.0, class.1)) (number_wants 0 high fields)
    (λ src. after (number_at 0 high src.1) (λ dst. class_at n.classes dst.1 >>=
    λ class. Ok (lane_of src.0 dst.0 class.0, class.1)) (number_wants 0 high src.1)
    (λ dst. after (class_at n.classes dst.1) (λ class. Ok (lane_of src.0 dst.0 class.0, class.1))
    (class_wants n.classes dst.1) (λ class. tt)))

words_want : (before : List ℕ) (fields : List (List ℕ)) → Wants (words_at before fields)
unfolding words_at
words_want before [] = either (ltb 0 (length before)) (fine before) (fault Missing) tt not_missing
words_want before (f ∷ fs) =
    after (checked (ltb (length before) 32) TooMany before)
    (λ room. number_at 0 4294967295 (f ∷ fs) >>= λ word. words_at (before ++ word.0 ∷ []) fs)
    (tested (ltb (length before) 32) TooMany before not_many)
    (λ room. after (number_at 0 4294967295 (f ∷ fs)) (λ word. words_at (before ++ word.0 ∷ []) fs)
    (number_wants 0 4294967295 (f ∷ fs)) (λ word. words_want (before ++ word.0 ∷ []) fs))

-- Lines

send_wants : (n : Network) (last : ℕ) (closed : Lane → Bool) (fields : List (List ℕ)) →
    Wants (send_at n last closed fields)
unfolding send_at
send_wants n last closed fields =
    after (turn_at last fields) (λ turn. lane_at n turn.1 >>= λ lane. is_open closed lane >>=
    λ _. words_at [] lane.1 >>= λ words. Ok (send turn.0 lane.0 words)) (turn_wants last fields)
    (λ turn. after (lane_at n turn.1) (λ lane. is_open closed lane >>=
    λ _. words_at [] lane.1 >>= λ words. Ok (send turn.0 lane.0 words)) (lane_wants n turn.1)
    (λ lane. after (is_open closed lane) (λ _. words_at [] lane.1 >>= λ words. Ok (send turn.0 lane.0 words))
    (tested (not (closed lane.0)) LaneClosed lane not_closed)
    (λ _. after (words_at [] lane.1) (λ words. Ok (send turn.0 lane.0 words)) (words_want [] lane.1) (λ words. tt))))

close_wants : (n : Network) (last : ℕ) (closed : Lane → Bool) (fields : List (List ℕ)) →
    Wants (close_at n last closed fields)
unfolding close_at
close_wants n last closed fields =
    after (turn_at last fields) (λ turn. lane_at n turn.1 >>=
    λ lane. checked (eqb (get_or n.channels lane.0.class 0) 1) ManyChannels lane >>= λ _. is_open closed lane >>=
    λ _. no_more lane.1 >>= λ _. Ok (close turn.0 lane.0)) (turn_wants last fields)
    (λ turn. after (lane_at n turn.1)
    (λ lane. checked (eqb (get_or n.channels lane.0.class 0) 1) ManyChannels lane >>= λ _. is_open closed lane >>=
    λ _. no_more lane.1 >>= λ _. Ok (close turn.0 lane.0)) (lane_wants n turn.1)
    (λ lane. after (checked (eqb (get_or n.channels lane.0.class 0) 1) ManyChannels lane)
    (λ _. is_open closed lane >>= λ _. no_more lane.1 >>= λ _. Ok (close turn.0 lane.0))
    (tested (eqb (get_or n.channels lane.0.class 0) 1) ManyChannels lane not_channels)
    (λ _. after (is_open closed lane) (λ _. no_more lane.1 >>= λ _. Ok (close turn.0 lane.0))
    (tested (not (closed lane.0)) LaneClosed lane not_closed)
    (λ _. after (no_more lane.1) (λ _. Ok (close turn.0 lane.0)) (no_more_wants lane.1) (λ _. tt)))))

-- an entry behind its word
abbrev counted : ℕ → List ℕ → Result Said Why → Result (Option Said) Why
counted count word step = checked (ltb count 10000) TooMany word >>= λ _. step >>= λ e. Ok (Some e)

counted_wants : (count : ℕ) (word : List ℕ) (step : Result Said Why) → Wants step → Wants (counted count word step)
counted_wants count word step wants =
    after (checked (ltb count 10000) TooMany word) (λ _. step >>= λ e. Ok (Some e))
    (tested (ltb count 10000) TooMany word not_many) (λ _. after step (λ e. Ok (Some e)) wants (λ e. tt))

abbrev ended : List (List ℕ) → Result (Option Said) Why
ended fields = no_more fields >>= λ _. Ok None

ended_wants : (fields : List (List ℕ)) → Wants (ended fields)
ended_wants fields = after (no_more fields) (λ _. Ok None) (no_more_wants fields) (λ _. tt)

entry_wants : (n : Network) (count last : ℕ) (closed : Lane → Bool) (fields : List (List ℕ)) →
    Wants (entry_at n count last closed fields)
unfolding entry_at
entry_wants n count last closed [] = not_missing
entry_wants n count last closed (f ∷ fs) =
    let sent = counted count f (send_at n last closed fs) in
    let shut = counted count f (close_at n last closed fs) in
    let rest = cond (bytes_eq f (codes "end")) (ended fs) (fault UnknownWord) in
    either (bytes_eq f (codes "send")) sent (cond (bytes_eq f (codes "close")) shut rest)
    (counted_wants count f (send_at n last closed fs) (send_wants n last closed fs))
    (either (bytes_eq f (codes "close")) shut rest
    (counted_wants count f (close_at n last closed fs) (close_wants n last closed fs))
    (either (bytes_eq f (codes "end")) (ended fs) (fault UnknownWord) (ended_wants fs) not_word))

-- The text

abbrev TextWants : Result (List Said) TextFault → Type 0
TextWants (Ok entries) = Unit {0}
TextWants (Err x) = x.why ≢ NoMemory

after_end_wants : (entries : List Said) (line : ℕ) (pieces : List (List ℕ)) → TextWants (after_end entries line pieces)
after_end_wants entries line [] = not_behind
after_end_wants entries line ([] ∷ []) = tt
after_end_wants entries line ([] ∷ q ∷ qs) = not_behind
after_end_wants entries line ((b ∷ bs) ∷ qs) = not_behind

step : (n : Network) (before : List Said) (line : ℕ) (next : List ℕ) (more : List (List ℕ)) →
    ((e : Said) → TextWants (read_entries n (before ++ e ∷ []) (suc line) (next ∷ more))) →
    (r : Result (Option Said) Why) → Wants r →
    TextWants (elim r as (λ _. Result (List Said) TextFault) [
      | Ok (Some e) ↦
          read_entries n (before ++ e ∷ []) (suc line) (next ∷ more)
      | Ok None ↦ after_end before (suc line) (next ∷ more)
      | Err why ↦ Err (at_line line why)
    ])
step n before line next more again (Err why) wants = wants
step n before line next more again (Ok None) wants = after_end_wants before (suc line) (next ∷ more)
step n before line next more again (Ok (Some e)) wants = again e

entries_want : (n : Network) (before : List Said) (line : ℕ) (pieces : List (List ℕ)) →
    TextWants (read_entries n before line pieces)
entries_want n before line [] = not_end
entries_want n before line (p ∷ []) = not_end
entries_want n before line (l ∷ next ∷ more) =
    step n before line next more (λ e. entries_want n (before ++ e ∷ []) (suc line) (next ∷ more))
    (entry_at n (length before) (last_turn before) (is_closed before) (cut space l))
    (entry_wants n (length before) (last_turn before) (is_closed before) (cut space l))

header_wants : (n : Network) (pieces : List (List ℕ)) → TextWants (read_header n pieces)
header_wants n [] = not_end
header_wants n (p ∷ []) = not_end
header_wants n (l ∷ next ∷ more) = by_word (bytes_eq l (codes "wormtraffic 1"))
  where
    by_word : (test : Bool) → TextWants (cond test (read_entries n [] 2 (next ∷ more)) (Err (at_line 1 Header)))
    by_word true = entries_want n [] 2 (next ∷ more)
    by_word false = not_header

pub no_want : (n : Network) (bytes : List ℕ) (x : TextFault) →
    ◌≡◌ {A = Result (List Said) TextFault} (traffic_of n bytes) (Err x) → x.why ≢ NoMemory
no_want n bytes x is = subst TextWants is (header_wants n (cut newline bytes))
