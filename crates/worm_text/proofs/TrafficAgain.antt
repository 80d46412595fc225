-- The text of entries that keep the rules is read as them.
use Rattle.std.proofs.Common.{◌≡◌, lit<, ℕ, suc, zero, ◌+◌, ◌-◌, ◌<◌, ◌≤◌, ◌^◌, Bool, true, false, eqb, leb, ltb, List}
use Rattle.std.proofs.Common.{[], ◌∷◌, ◌++◌, length, get_or, Some, Ok, refl, sym, ap, ◌∙◌, append_assoc, arith, map}
use Rattle.std.proofs.Common.{All}
use Rattle.std.specs.Prelude.{not, codes, Contains}
use Rattle.std.specs.Fmt.{decimal}
use Rattle.std.specs.Str.{bytes_eq}
use Rattle.std.specs.List.{position_or_len}
use Rattle.std.proofs.lemmas.Bool.Decides.{nat_tests}
use Rattle.std.proofs.lemmas.List.{append-nil, length_push, length-append}
use Rattle.std.proofs.lemmas.List.Elements.{Contains-append_left, Contains-append_right}
use Rattle.std.proofs.lemmas.List.Sums.{position_or_len_is}
use Rattle.worm_mesh.specs.Address.{node_count}
use Rattle.worm_text.specs.declared.fault.Why.TheVariants.{OrderOfTurns, LaneClosed, TooMany, ManyChannels}
use Rattle.worm_flit.specs.declared.Lane.{Lane}
use Rattle.worm_text.specs.Lines.{cut, line, space, newline}
use Rattle.worm_text.specs.Numerals.{is_name}
use Rattle.worm_text.specs.Network.{Network, IsBetween, AreNew}
use Rattle.worm_text.specs.Reading.{◌>>=◌, checked, number_at, no_more}
use Rattle.worm_text.specs.Reader.{AreLines}
use Rattle.worm_text.specs.Traffic.{Said, send, close, is_closed, last_turn, class_at, turn_at, lane_at}
use Rattle.worm_term.specs.Lanes.{lane_of}
use Rattle.worm_text.specs.Traffic.{words_at, is_open, send_at, close_at, entry_at, read_entries, read_header}
use Rattle.worm_text.specs.Traffic.{traffic_of}
use Rattle.worm_text.specs.TrafficText.{where_fields, entry_line, traffic_lines, traffic_text, IsPlaced, IsEntry}
use Rattle.worm_text.specs.TrafficText.{AreEntries}
use Rattle.worm_text.proofs.Binds.{fine, bind_at_ok}
use Rattle.worm_text.proofs.Cuts.{IsFrom, IsPlain, ArePlain, IsFrom-line, line_from, cut-line, cut-finished}
use Rattle.worm_text.proofs.FieldLaws.{same_bytes, bytes_eq-same, number_at_again}
use Rattle.worm_text.proofs.Again.{plain-decimal, plain_name}
use Rattle.worm_text.proofs.Entries.{entries-more, entries-end, header_good}

-- what a network text promises of a network, as far as a traffic text needs it
pub record IsNamed (n : Network) : Type 0 where
  pub few : node_count n.radices ≤ 256
  pub spelled : All (λ name. is_name name ≡ true) n.classes
  pub apart : AreNew [] n.classes

-- ---- a class by its name

not_before : (pre names : List (List ℕ)) (j : ℕ) → AreNew pre names → j < length names
    → Contains pre (get_or names j []) → ⊥
not_before pre [] j h lt w = omega arith
not_before pre (x ∷ xs) zero h lt w = h.0 w
not_before pre (x ∷ xs) (suc j) h lt w =
    not_before (pre ++ x ∷ []) xs j h.1 (omega arith) (Contains-append_left pre (x ∷ []) (get_or xs j []) w)

names_apart : (pre names : List (List ℕ)) (i j : ℕ) → AreNew pre names → i < j → j < length names
    → get_or names i [] ≡ get_or names j [] → ⊥
names_apart pre [] i j h lt inside e = omega arith
names_apart pre (x ∷ xs) i zero h lt inside e = omega arith
names_apart pre (x ∷ xs) zero (suc j) h lt inside e =
    let one : Contains (x ∷ []) (get_or xs j []) = (0, lit< tt, e) in
    not_before (pre ++ x ∷ []) xs j h.1 (omega arith) (Contains-append_right pre (x ∷ []) (get_or xs j []) one)
names_apart pre (x ∷ xs) (suc i) (suc j) h lt inside e =
    names_apart (pre ++ x ∷ []) xs i j h.1 (omega arith) (omega arith) e

differ : (x y : List ℕ) → (x ≡ y → ⊥) → bytes_eq x y ≡ false
differ x y h = cases (bytes_eq x y) refl
  where
    cases : (b : Bool) → bytes_eq x y ≡ b → b ≡ false
    cases true e = absurd (h (same_bytes x y e))
    cases false e = refl

lt_ltb : (m n : ℕ) → m < n → ltb m n ≡ true
lt_ltb m n h = grind (arith, nat_tests)

le_leb : (m n : ℕ) → m ≤ n → leb m n ≡ true
le_leb m n h = grind (arith, nat_tests)

class_again : (names : List (List ℕ)) (c : ℕ) (rest : List (List ℕ)) → AreNew [] names → c < length names
    → class_at names (get_or names c [] ∷ rest) ≡ fine (c, rest)
class_again names c rest apart lt =
    let name = get_or names c [] in
    let at : position_or_len (λ x. bytes_eq x name) names ≡ c =
    position_or_len_is (λ x. bytes_eq x name) names c [] (omega arith)
    (λ k h. differ (get_or names k []) name (names_apart [] names k c apart h lt)) (λ h. bytes_eq-same name) in
    rw (at, lt_ltb c (length names) lt) refl

-- ---- the fields

turn_again : (last t : ℕ) (rest : List (List ℕ)) → t ≤ 1000000 → last ≤ t
    → turn_at last (decimal t ∷ rest) ≡ fine (t, rest)
unfolding turn_at
turn_again last t rest small le =
    bind_at_ok (number_at 0 1000000 (decimal t ∷ rest)) (λ turn. checked (leb last turn.0) OrderOfTurns turn) (
      t,
      rest,
    ) (number_at_again 0 1000000 t rest (lit< tt) (omega arith, small))
    ∙ ap (λ (b : Bool). checked {X = ℕ × List (List ℕ)} b OrderOfTurns (t, rest)) (le_leb last t le)

lane_again : (n : Network) (before : List Said) (turn : ℕ) (lane : Lane) (rest : List (List ℕ)) → IsNamed n
    → IsPlaced n before turn lane
    → lane_at n (decimal lane.src ∷ decimal lane.dst ∷ get_or n.classes lane.class [] ∷ rest) ≡ fine (lane, rest)
unfolding lane_at
lane_again n before turn lane rest named p =
    let high = node_count n.radices - 1 in
    let small : high < 2 ^ 64 = omega (arith, named.few) in
    let third = get_or n.classes lane.class [] ∷ rest in
    bind_at_ok (number_at 0 high (decimal lane.src ∷ decimal lane.dst ∷ third))
    (λ src. number_at 0 high src.1 >>= λ dst. class_at n.classes dst.1 >>= λ class. Ok (
      lane_of src.0 dst.0 class.0,
      class.1,
    )) (lane.src, decimal lane.dst ∷ third)
    (number_at_again 0 high lane.src (decimal lane.dst ∷ third) small p.src)
    ∙ bind_at_ok (number_at 0 high (decimal lane.dst ∷ third))
    (λ dst. class_at n.classes dst.1 >>= λ class. Ok (lane_of lane.src dst.0 class.0, class.1)) (
      lane.dst,
      third,
    ) (number_at_again 0 high lane.dst third small p.dst)
    ∙ bind_at_ok (class_at n.classes third) (λ class. Ok (lane_of lane.src lane.dst class.0, class.1)) (
      lane.class,
      rest,
    ) (class_again n.classes lane.class rest named.apart p.class)

words_again : (before more : List ℕ) → All (IsBetween 0 4294967295) more → IsBetween 1 32 (length before + length more)
    → words_at before (map decimal more) ≡ fine (before ++ more)
unfolding words_at
words_again before [] each count = let lt : ltb 0 (length before) ≡ true =
    lt_ltb 0 (length before) (omega (arith, count)) in rw lt (ap (λ (x : List ℕ). fine x) (sym (append-nil before)))
words_again before (w ∷ ws) each count =
    let room : ltb (length before) 32 ≡ true = lt_ltb (length before) 32 (omega (arith, count)) in
    let first : IsBetween 0 4294967295 w = each 0 0 (omega arith) in
    let rest : words_at (before ++ w ∷ []) (map decimal ws) ≡ fine ((before ++ w ∷ []) ++ ws) =
    words_again (before ++ w ∷ []) ws (λ i d lt. each (suc i) d (omega arith))
    (omega (arith, count, length_push before w), omega (arith, count, length_push before w)) in
    ap (λ (b : Bool). checked b TooMany before >>= λ room. number_at 0 4294967295 (decimal w ∷ map decimal ws) >>=
    λ word. words_at (before ++ word.0 ∷ []) (map decimal ws)) room
    ∙ bind_at_ok (number_at 0 4294967295 (decimal w ∷ map decimal ws))
    (λ word. words_at (before ++ word.0 ∷ []) (map decimal ws)) (
      w,
      map decimal ws,
    ) (number_at_again 0 4294967295 w (map decimal ws) (lit< tt) first)
    ∙ rest ∙ ap (λ (x : List ℕ). fine x) (append_assoc before (w ∷ []) ws)

open_again : (before : List Said) (lane : Lane) (rest : List (List ℕ)) → is_closed before lane ≡ false
    → is_open (is_closed before) (lane, rest) ≡ fine (lane, rest)
open_again before lane rest e = ap (λ (b : Bool). checked {X = Lane × List (List ℕ)} (not b) LaneClosed (lane, rest)) e

send_again : (n : Network) (before : List Said) (turn : ℕ) (lane : Lane) (words : List ℕ) → IsNamed n
    → IsEntry n before (send turn lane words)
    → send_at n (last_turn before) (is_closed before) (where_fields n turn lane ++ map decimal words)
    ≡ fine (send turn lane words)
unfolding send_at
send_again n before turn lane words named (p, count, each) =
    let fs = map decimal words in
    let three = decimal lane.src ∷ decimal lane.dst ∷ get_or n.classes lane.class [] ∷ fs in
    bind_at_ok (turn_at (last_turn before) (decimal turn ∷ three))
    (λ turn. lane_at n turn.1 >>= λ lane. is_open (is_closed before) lane >>= λ _. words_at [] lane.1 >>=
    λ words. Ok (send turn.0 lane.0 words)) (
      turn,
      three,
    ) (turn_again (last_turn before) turn three p.turn_small p.in_order)
    ∙ bind_at_ok (lane_at n three) (λ lane. is_open (is_closed before) lane >>= λ _. words_at [] lane.1 >>=
    λ words. Ok (send turn lane.0 words)) (lane, fs) (lane_again n before turn lane fs named p)
    ∙ bind_at_ok (is_open (is_closed before) (lane, fs)) (λ _. words_at [] fs >>= λ words. Ok (send turn lane words))
    (lane, fs) (open_again before lane fs p.open_lane)
    ∙ bind_at_ok (words_at [] fs) (λ words. Ok (send turn lane words)) words
    (words_again [] words each (omega (arith, count), omega (arith, count)))

close_again : (n : Network) (before : List Said) (turn : ℕ) (lane : Lane) → IsNamed n
    → IsEntry n before (close turn lane)
    → close_at n (last_turn before) (is_closed before) (where_fields n turn lane) ≡ fine (close turn lane)
unfolding close_at
close_again n before turn lane named (p, single) =
    let three = decimal lane.src ∷ decimal lane.dst ∷ get_or n.classes lane.class [] ∷ [] in
    let one : eqb (get_or n.channels lane.class 0) 1 ≡ true = ap (λ (m : ℕ). eqb m 1) single in
    bind_at_ok (turn_at (last_turn before) (decimal turn ∷ three))
    (λ turn. lane_at n turn.1 >>= λ lane. checked (eqb (get_or n.channels lane.0.class 0) 1) ManyChannels lane >>=
    λ _. is_open (is_closed before) lane >>= λ _. no_more lane.1 >>= λ _. Ok (close turn.0 lane.0)) (
      turn,
      three,
    ) (turn_again (last_turn before) turn three p.turn_small p.in_order)
    ∙ bind_at_ok (lane_at n three) (λ lane. checked (eqb (get_or n.channels lane.0.class 0) 1) ManyChannels lane >>=
    λ _. is_open (is_closed before) lane >>= λ _. no_more lane.1 >>= λ _. Ok (close turn lane.0)) (
      lane,
      [],
    ) (lane_again n before turn lane [] named p)
    ∙ ap (λ (b : Bool). checked {X = Lane × List (List ℕ)} b ManyChannels (
      lane,
      [],
    ) >>= λ _. is_open (is_closed before) (lane, []) >>= λ _. no_more [] >>= λ _. Ok (close turn lane)) one
    ∙ bind_at_ok (is_open (is_closed before) (lane, [])) (λ _. no_more [] >>= λ _. Ok (close turn lane)) (
      lane,
      [],
    ) (open_again before lane [] p.open_lane)

-- ---- plain fields

some_name : (n : Network) (c : ℕ) → IsNamed n → c < length n.classes → IsPlain (get_or n.classes c [])
some_name n c named lt = plain_name (get_or n.classes c []) (named.spelled c [] lt)

plain_numbers : (high : ℕ) (ks : List ℕ) → high < 2 ^ 64 → All (IsBetween 0 high) ks → ArePlain (map decimal ks)
plain_numbers high [] small h = tt
plain_numbers high (k ∷ ks) small h = let first : IsBetween 0 high k = h 0 0 (omega arith) in
    (plain-decimal k (omega (arith, first)), plain_numbers high ks small (λ i d lt. h (suc i) d (omega arith)))

plain_entry : (n : Network) (before : List Said) (word : List ℕ) (turn : ℕ) (lane : Lane) (rest : List (List ℕ))
    → IsNamed n → IsPlaced n before turn lane → IsPlain word → ArePlain rest
    → ArePlain ((word ∷ where_fields n turn lane) ++ rest)
plain_entry n before word turn lane rest named p w r = (
  w,
  (
    plain-decimal turn (omega (arith, p.turn_small)),
    (
      plain-decimal lane.src (omega (arith, p.src, named.few)),
      (plain-decimal lane.dst (omega (arith, p.dst, named.few)), (some_name n lane.class named p.class, r)),
    ),
  ),
)

-- the line of an entry is judged to be the entry, and no line end stands in it
pub entry_again : (n : Network) (before : List Said) (e : Said) → IsNamed n → IsEntry n before e
    → (entry_at n (length before) (last_turn before) (is_closed before) (cut space (entry_line n e)) ≡ fine (Some e))
    × IsFrom 32 (entry_line n e)
unfolding entry_at
entry_again n before (send turn lane words) named (p, count, each) =
    let plain = plain_entry n before (codes "send") turn lane (map decimal words) named p refl
    (plain_numbers 4294967295 words (lit< tt) each) in
    let room : ltb (length before) 10000 ≡ true = lt_ltb (length before) 10000 p.room in (
      ap (λ (fs : List (List ℕ)). entry_at n (length before) (last_turn before) (is_closed before) fs)
          (cut-line (codes "send") (where_fields n turn lane ++ map decimal words) plain)
          ∙ rw (room, send_again n before turn lane words named (p, count, each)) refl,
      IsFrom-line ((codes "send" ∷ where_fields n turn lane) ++ map decimal words) plain,
    )
entry_again n before (close turn lane) named (p, single) =
    let plain = plain_entry n before (codes "close") turn lane [] named p refl tt in
    let room : ltb (length before) 10000 ≡ true = lt_ltb (length before) 10000 p.room in (
      ap (λ (fs : List (List ℕ)). entry_at n (length before) (last_turn before) (is_closed before) fs)
          (cut-line (codes "close") (where_fields n turn lane) plain)
          ∙ rw (room, close_again n before turn lane named (p, single)) refl,
      IsFrom-line (codes "close" ∷ where_fields n turn lane) plain,
    )

-- ---- the whole text

entries_again : (n : Network) (before more : List Said) (line : ℕ) → IsNamed n → AreEntries n before more
    → read_entries n before line ((map (entry_line n) more ++ codes "end" ∷ []) ++ [] ∷ []) ≡ Ok (before ++ more)
unfolding entry_at
entries_again n before [] line named keeps =
    entries-end n before line (codes "end") ([] ∷ []) (lit< tt) refl
    ∙ ap (λ (x : List Said). Ok x) (sym (append-nil before))
entries_again n before (e ∷ es) line named keeps =
    let j = entry_again n before e named keeps.0 in
    let rest = (map (entry_line n) es ++ codes "end" ∷ []) ++ [] ∷ [] in
    entries-more n before line (entry_line n e) rest e
    (omega (arith, length-append (map (entry_line n) es ++ codes "end" ∷ []) ([] ∷ []))) j.0
    ∙ entries_again n (before ++ e ∷ []) es (suc line) named keeps.1
    ∙ ap (λ (x : List Said). Ok x) (append_assoc before (e ∷ []) es)

entry_lines : (n : Network) (before more : List Said) → IsNamed n → AreEntries n before more
    → AreLines (map (entry_line n) more ++ codes "end" ∷ [])
entry_lines n before [] named keeps = (line_from (codes "end") refl, tt)
entry_lines n before (e ∷ es) named keeps = (
  line_from (entry_line n e) (entry_again n before e named keeps.0).1,
  entry_lines n (before ++ e ∷ []) es named keeps.1,
)

pub traffic_are_lines : (n : Network) (entries : List Said) → IsNamed n → AreEntries n [] entries
    → AreLines (traffic_lines n entries)
traffic_are_lines n entries named keeps = (line_from (codes "wormtraffic 1") refl, entry_lines n [] entries named keeps)

pub reads_traffic : (n : Network) (entries : List Said) → IsNamed n → AreEntries n [] entries
    → traffic_of n (traffic_text n entries) ≡ Ok entries
reads_traffic n entries named keeps =
    let pieces : cut newline (traffic_text n entries) ≡ traffic_lines n entries ++ [] ∷ [] =
    ap (cut newline) (sym (append-nil (traffic_text n entries)))
    ∙ cut-finished (traffic_lines n entries) [] (traffic_are_lines n entries named keeps) in
    ap (read_header n) pieces
    ∙ header_good n (codes "wormtraffic 1") ((map (entry_line n) entries ++ codes "end" ∷ []) ++ [] ∷ [])
    (omega (arith, length-append (map (entry_line n) entries ++ codes "end" ∷ []) ([] ∷ []))) refl
    ∙ entries_again n [] entries 2 named keeps
