-- Entries, line after line.
use Rattle.std.proofs.Common.{◌≡◌, ℕ, suc, ◌+◌, ◌<◌, Bool, true, false, ◌||◌, inl, inr, cond, eqb, ltb, List}
use Rattle.std.proofs.Common.{[], ◌∷◌, ◌++◌, length, Option, Some, None, Result, Ok, Err, refl, sym}
use Rattle.std.proofs.Common.{ap, ◌∙◌, arith, map, add-one}
use mathlib.Core.Path.{fun_ext}
use Rattle.std.specs.Prelude.{codes, not, OnOk, is_ok}
use Rattle.std.specs.Str.{bytes_eq}
use Rattle.std.specs.List.{onto_first}
use Rattle.std.proofs.lemmas.Bool.Decides.{nat_tests}
use Rattle.std.proofs.lemmas.List.{map_push}
use Rattle.std.proofs.lemmas.List.Folds.{list_any-append}
use Rattle.std.proofs.lemmas.List.Sums.{fold_push}
use Rattle.worm_text.specs.declared.fault.Why.{Why}
use Rattle.worm_text.specs.declared.fault.Why.TheVariants.{Header, UnknownWord, TooMany, AfterEnd}
use Rattle.worm_text.specs.declared.fault.TextFault.{TextFault}
use Rattle.worm_flit.specs.declared.Lane.{Lane}
use Rattle.worm_script.specs.declared.entry.Act.{Act}
use Rattle.worm_script.specs.declared.entry.Act.TheVariants as act
use Rattle.worm_script.specs.declared.entry.Entry.{Entry}
use Rattle.worm_text.specs.Lines.{cut, space, newline}
use Rattle.worm_text.specs.Network.{Network}
use Rattle.worm_text.specs.Reading.{◌>>=◌, checked, no_more}
use Rattle.worm_text.specs.Reader.{at_line}
use Rattle.worm_text.specs.Traffic.{Said, said, entry_view, turn_of, closes, is_closed, last_turn, entry_at, send_at}
use Rattle.worm_text.specs.Traffic.{close_at, read_entries, after_end, read_header, traffic_of}
use Rattle.worm_text.proofs.Binds.{fine, fault, bind_ok, checked_ok}
use Rattle.worm_text.proofs.FieldLaws.{chosen}
use Rattle.worm_text.proofs.ReadLines.{some_piece}

-- what the reader keeps says what the entries say
pub same_call : (n : Network) (entries : List Said) (count last : ℕ) (closed : Lane → Bool) (fields : List (List ℕ))
    → count ≡ length entries → last ≡ last_turn entries → ((lane : Lane) → closed lane ≡ is_closed entries lane)
    → entry_at n count last closed fields ≡ entry_at n (length entries) (last_turn entries) (is_closed entries) fields
same_call n entries count last closed fields c l h =
    ap (λ (k : ℕ). entry_at n k last closed fields) c ∙ ap (λ (k : ℕ). entry_at n (length entries) k closed fields) l
    ∙ ap (λ (f : Lane → Bool). entry_at n (length entries) (last_turn entries) f fields) (fun_ext h)

abbrev pub judged : Network → List Said → List ℕ → Result (Option Said) Why
judged n entries l = entry_at n (length entries) (last_turn entries) (is_closed entries) (cut space l)

pub entries-err : (n : Network) (entries : List Said) (line : ℕ) (l : List ℕ) (pieces : List (List ℕ)) (why : Why)
    → 0 < length pieces → judged n entries l ≡ fault why
    → read_entries n entries line (l ∷ pieces) ≡ Err (at_line line why)
entries-err n entries line l [] why lt e = absurd (omega arith)
entries-err n entries line l (next ∷ more) why lt e = rw (e, read_entries) refl

pub entries-end : (n : Network) (entries : List Said) (line : ℕ) (l : List ℕ) (pieces : List (List ℕ))
    → 0 < length pieces → judged n entries l ≡ fine None
    → read_entries n entries line (l ∷ pieces) ≡ after_end entries (suc line) pieces
entries-end n entries line l [] lt e = absurd (omega arith)
entries-end n entries line l (next ∷ more) lt e = rw (e, read_entries) refl

pub entries-more : (n : Network) (entries : List Said) (line : ℕ) (l : List ℕ) (pieces : List (List ℕ)) (s : Said)
    → 0 < length pieces → judged n entries l ≡ fine (Some s)
    → read_entries n entries line (l ∷ pieces) ≡ read_entries n (entries ++ s ∷ []) (suc line) pieces
entries-more n entries line l [] s lt e = absurd (omega arith)
entries-more n entries line l (next ∷ more) s lt e = rw (e, read_entries) refl

after_end_more : (entries : List Said) (line b : ℕ) (bs : List ℕ)
    → after_end entries line (cut newline (b ∷ bs)) ≡ Err (at_line line AfterEnd)
after_end_more entries line b bs = cases (eqb b newline) (cut newline bs) (some_piece newline bs)
  where
    cases : (t : Bool) (parts : List (List ℕ)) → 0 < length parts
        → after_end entries line (cond t ([] ∷ parts) (onto_first b parts)) ≡ Err (at_line line AfterEnd)
    cases t [] lt = absurd (omega arith)
    cases true (part ∷ parts) lt = refl
    cases false (part ∷ parts) lt = refl

-- ---- an iteration

abbrev Total : Type 0
Total = Result (List Said) TextFault

pub stops : (n : Network) (entries : List Said) (line : ℕ) (rest front after : List ℕ) (total : Total) (why : Why)
    → cut newline rest ≡ front ∷ cut newline after
    → read_entries n entries line (cut newline rest) ≡ total → judged n entries front ≡ fault why
    → total ≡ Err (at_line line why)
stops n entries line rest front after total why cuts so_far e =
    sym so_far ∙ ap (read_entries n entries line) cuts
    ∙ entries-err n entries line front (cut newline after) why (some_piece newline after) e

pub ends_well : (n : Network) (entries : List Said) (line : ℕ) (rest front after : List ℕ) (total : Total)
    → cut newline rest ≡ front ∷ cut newline after
    → read_entries n entries line (cut newline rest) ≡ total → judged n entries front ≡ fine None → length after ≡ 0
    → total ≡ Ok entries
ends_well n entries line rest front [] total cuts so_far e none =
    sym so_far ∙ ap (read_entries n entries line) cuts
    ∙ entries-end n entries line front (cut newline []) (some_piece newline []) e
ends_well n entries line rest front (b ∷ bs) total cuts so_far e none = absurd (omega arith)

pub ends_ill : (n : Network) (entries : List Said) (line : ℕ) (rest front after : List ℕ) (total : Total)
    → cut newline rest ≡ front ∷ cut newline after
    → read_entries n entries line (cut newline rest) ≡ total → judged n entries front ≡ fine None → 0 < length after
    → total ≡ Err (at_line (line + 1) AfterEnd)
ends_ill n entries line rest front [] total cuts so_far e some = absurd (omega arith)
ends_ill n entries line rest front (b ∷ bs) total cuts so_far e some =
    sym so_far ∙ ap (read_entries n entries line) cuts
    ∙ entries-end n entries line front (cut newline (b ∷ bs)) (some_piece newline (b ∷ bs)) e
    ∙ after_end_more entries (suc line) b bs ∙ ap (λ (k : ℕ). Err (at_line k AfterEnd)) (omega arith)

pub goes_on : (n : Network) (entries : List Entry) (entry : Entry) (line : ℕ) (rest front after : List ℕ)
    (total : Total) → cut newline rest ≡ front ∷ cut newline after
    → read_entries n (map entry_view entries) line (cut newline rest) ≡ total
    → judged n (map entry_view entries) front ≡ fine (Some (entry_view entry))
    → read_entries n (map entry_view (entries ++ entry ∷ [])) (line + 1) (cut newline after) ≡ total
goes_on n entries entry line rest front after total cuts so_far e =
    rw (add-one, map_push) (sym (entries-more n (map entry_view entries) line front (cut newline after)
    (entry_view entry) (some_piece newline after) e)
    ∙ ap (read_entries n (map entry_view entries) line) (sym cuts) ∙ so_far)

turn-said : (turn : ℕ) (a : Act) → turn_of (said turn a) ≡ turn
turn-said turn (act.Offer p) = refl
turn-said turn (act.Close lane) = refl

pub last-push : (entries : List Entry) (entry : Entry) → entry.turn ≡ last_turn (map entry_view (entries ++ entry ∷ []))
last-push entries entry =
    sym (ap last_turn (map_push entry_view entries entry)
    ∙ fold_push (λ _ e. turn_of e) 0 (map entry_view entries) (entry_view entry) ∙ turn-said entry.turn entry.act)

or_swap : (a b : Bool) → (a || b) ≡ (b || (a || false))
or_swap true true = refl
or_swap true false = refl
or_swap false true = refl
or_swap false false = refl

pub closed-push : (entries : List Entry) (entry : Entry) (lane : Lane) (was now : Bool)
    → was ≡ is_closed (map entry_view entries) lane → now ≡ (closes lane (entry_view entry) || was)
    → now ≡ is_closed (map entry_view (entries ++ entry ∷ [])) lane
closed-push entries entry lane was now w h =
    h ∙ ap (λ (b : Bool). closes lane (entry_view entry) || b) w
    ∙ or_swap (closes lane (entry_view entry)) (is_closed (map entry_view entries) lane)
    ∙ sym (ap (λ es. is_closed es lane) (map_push entry_view entries entry)
    ∙ list_any-append (closes lane) (map entry_view entries) (entry_view entry ∷ []))

-- an entry is read only where there is room for one
pub room : (n : Network) (count last : ℕ) (closed : Lane → Bool) (fields : List (List ℕ)) (s : Said)
    → entry_at n count last closed fields ≡ fine (Some s) → count < 10000
unfolding entry_at
room n count last closed [] s e = absurd cc
room n count last closed (f ∷ fs) s e =
    elim (chosen (bytes_eq f (codes "send")) _ _ (fine (Some s)) e) [
      | inl h ↦ let b = bind_ok (checked (ltb count 10000) TooMany f)
          (λ _. send_at n last closed fs >>= λ e. Ok (Some e)) (Some s) h.1 in
          below (checked_ok (ltb count 10000) TooMany f b.0 b.1).0
      | inr h ↦ elim (chosen (bytes_eq f (codes "close")) _ _ (fine (Some s)) h.1) [
        | inl g ↦ let b = bind_ok (checked (ltb count 10000) TooMany f)
            (λ _. close_at n last closed fs >>= λ e. Ok (Some e)) (Some s) g.1 in
            below (checked_ok (ltb count 10000) TooMany f b.0 b.1).0
        | inr g ↦ elim (chosen (bytes_eq f (codes "end")) _ _ (fine (Some s)) g.1) [
          | inl k ↦ let b = bind_ok (no_more fs) (λ _. Ok None) (Some s) k.1 in
              absurd (let x : ◌≡◌ {A = Result (Option Said) Why} (fine None) (fine (Some s)) = b.2 in cc)
          | inr k ↦ absurd (let x : ◌≡◌ {A = Result (Option Said) Why} (fault UnknownWord) (fine (Some s)) = k.1 in cc)
        ]
      ]
    ]
  where
    below : {count : ℕ} → ltb count 10000 ≡ true → count < 10000
    below t = grind (arith, nat_tests)

-- ---- calls that did not fail

pub on_ok : {T E : Type 0} (r : Result T E) (bad : Bool) (P : Type 0) → OnOk r P → is_ok r ≡ not bad → bad ≡ false → P
on_ok (Ok x) bad P h n f = h
on_ok (Err e) true P h n f = absurd cc
on_ok (Err e) false P h n f = absurd cc

header_piece : (n : Network) (l : List ℕ) (pieces : List (List ℕ)) → 0 < length pieces
    → bytes_eq l (codes "wormtraffic 1") ≡ false → read_header n (l ∷ pieces) ≡ Err (at_line 1 Header)
header_piece n l [] lt e = absurd (omega arith)
header_piece n l (next ∷ more) lt e = rw (e, read_header) refl

pub header_ill : (n : Network) (bytes l rest : List ℕ) → cut newline bytes ≡ l ∷ cut newline rest
    → bytes_eq l (codes "wormtraffic 1") ≡ false → traffic_of n bytes ≡ Err (at_line 1 Header)
header_ill n bytes l rest cuts e = ap (read_header n) cuts
    ∙ header_piece n l (cut newline rest) (some_piece newline rest) e

pub header_good : (n : Network) (l : List ℕ) (pieces : List (List ℕ)) → 0 < length pieces
    → bytes_eq l (codes "wormtraffic 1") ≡ true → read_header n (l ∷ pieces) ≡ read_entries n [] 2 pieces
header_good n l [] lt e = absurd (omega arith)
header_good n l (next ∷ more) lt e = rw (e, read_header) refl

pub header_well : (n : Network) (bytes l rest : List ℕ) → cut newline bytes ≡ l ∷ cut newline rest
    → bytes_eq l (codes "wormtraffic 1") ≡ true → traffic_of n bytes ≡ read_entries n [] 2 (cut newline rest)
header_well n bytes l rest cuts e = ap (read_header n) cuts
    ∙ header_good n l (cut newline rest) (some_piece newline rest) e

pub differs : (r : Bool) (l word text : List ℕ) → r ≡ not (bytes_eq l word) → word ≡ text → r ≡ true
    → bytes_eq l text ≡ false
differs r l word text e w t = ap (bytes_eq l) (sym w) ∙ flip (bytes_eq l word) (sym e ∙ t)
  where
    flip : (b : Bool) → not b ≡ true → b ≡ false
    flip true h = absurd cc
    flip false h = refl

pub agrees : (r : Bool) (l word text : List ℕ) → r ≡ not (bytes_eq l word) → word ≡ text → r ≡ false
    → bytes_eq l text ≡ true
agrees r l word text e w t = ap (bytes_eq l) (sym w) ∙ flip (bytes_eq l word) (sym e ∙ t)
  where
    flip : (b : Bool) → not b ≡ false → b ≡ true
    flip true h = refl
    flip false h = absurd cc
