-- Reading line after line: what is read is a report, each report is read, and at which line reading stops.
use Rattle.std.proofs.Common.{◌≡◌, lit<, lit≤, ℕ, suc, ◌+◌, ◌<◌, ◌≤◌, Bool, true, false, ◌&&◌, cond, eqb, leb, List, []}
use Rattle.std.proofs.Common.{◌∷◌, ◌++◌, length, map, Result, Ok, Err, refl, sym, ap, subst, ◌∙◌, append_assoc, arith}
use Rattle.std.proofs.Common.{inl, inr, ◌⊎◌}
use Rattle.std.specs.Prelude.{IfOk, IfErr}
use Rattle.std.specs.List.{join_with_byte}
use Rattle.std.proofs.lemmas.Bool.{cases_lt}
use Rattle.std.proofs.lemmas.Bool.Decides.{nat_tests}
use Rattle.std.proofs.lemmas.List.{append-nil}
use Rattle.std.proofs.lemmas.List.Sums.{fold-append}
use Rattle.worm_text.specs.declared.fault.Why.{Why}
use Rattle.worm_text.specs.declared.fault.Why.TheVariants.{NoEnd, AfterEnd}
use Rattle.worm_text.specs.declared.fault.TextFault.{TextFault}
use Rattle.worm_text.specs.Lines.{cut, newline}
use Rattle.worm_text.specs.Reader.{at_line, AreLines}
use Rattle.worm_text.proofs.Binds.{fine, fault}
use Rattle.worm_text.proofs.Cuts.{IsFrom-line, line_from, cut-finished, bytes_are}
use Rattle.worm_text.proofs.FieldLaws.{chosen}
use Rattle.worm_text.proofs.ReadLines.{some_piece}
use Rattle.worm_rows.specs.declared.shape.Shape.{Shape}
use Rattle.worm_rows.specs.declared.standing.Standing.{Standing}
use Rattle.worm_rows.specs.declared.rows.Row.{Row}
use Rattle.worm_rows.specs.declared.rows.Row.TheVariants.{Header, Options, NotOffered}
use Rattle.worm_rows.specs.declared.rows.Row.TheVariants.{Total}
use Rattle.worm_rows.specs.Rows.{row_fields, row_line, rows_text}
use Rattle.worm_rows.specs.Rules.{IsRow, MayFollow, Follow, IsReport, latest, behind, standing, at_start}
use Rattle.worm_rows.specs.Reading.{judge}
use Rattle.worm_rows.specs.Report.{at_end, read, report_of, BeginsReport, IsReportFaultLine, RanOut, AnswersOrFull}
use Rattle.worm_rows.proofs.RowLaws.{plain_row}
use Rattle.worm_rows.proofs.Order.{IsSound, judge_takes, judge_again, goes_on}

abbrev pub Answer : Type 0
Answer = Result (List Row) TextFault

abbrev pub good : List Row → Answer
good rows = Ok rows

abbrev pub bad : TextFault → Answer
bad x = Err x

-- ---- one line

pub read_more : (s : Shape) (t : Standing) (rows : List Row) (line : ℕ) (l : List ℕ) (pieces : List (List ℕ))
    (row : Row) → 0 < length pieces → judge s t l ≡ fine row
    → read s t rows line (l ∷ pieces) ≡ read s (behind t row) (rows ++ row ∷ []) (suc line) pieces
read_more s t rows line l [] row lt e = absurd (omega arith)
read_more s t rows line l (next ∷ more) row lt e = rw (e, read) refl

pub read_ill : (s : Shape) (t : Standing) (rows : List Row) (line : ℕ) (l : List ℕ) (pieces : List (List ℕ)) (why : Why)
    → 0 < length pieces → judge s t l ≡ fault why
    → read s t rows line (l ∷ pieces) ≡ bad (at_line line why)
read_ill s t rows line l [] why lt e = absurd (omega arith)
read_ill s t rows line l (next ∷ more) why lt e = rw (e, read) refl

eqb_is : (m n : ℕ) → eqb m n ≡ true → m ≡ n
eqb_is m n e = grind (arith, nat_tests)

is_eqb : (m n : ℕ) → m ≡ n → eqb m n ≡ true
is_eqb m n e = grind (arith, nat_tests)

no_bytes : (bs : List ℕ) → eqb (length bs) 0 ≡ true → bs ≡ []
no_bytes [] e = refl
no_bytes (b ∷ bs) e = absurd (let z = eqb_is (length (b ∷ bs)) 0 e in omega arith)

named_line : (line : ℕ) (why : Why) (x : TextFault) → bad (at_line line why) ≡ bad x → x.line ≡ line
named_line line why x e = let same : at_line line why ≡ x = cc in ap (λ (y : TextFault). y.line) (sym same)

not_both : (rows : List Row) (x : TextFault) → good rows ≡ bad x → ⊥
not_both rows x e = absurd cc

not_either : (rows : List Row) (x : TextFault) → bad x ≡ good rows → ⊥
not_either rows x e = absurd cc

good_is : (xs ys : List Row) → good xs ≡ good ys → xs ≡ ys
good_is xs ys e = cc

-- ---- the end

end_good : (t : Standing) (rows all : List Row) (line : ℕ) (rest : List ℕ) → at_end t rows line rest ≡ good all
    → (t.next ≡ 7) × (rest ≡ []) × (rows ≡ all)
end_good t rows all line rest e =
    elim (chosen (eqb t.next 7) _ (bad (at_line line NoEnd)) (good all) e) [
      | inr h ↦ absurd (not_either all (at_line line NoEnd) h.1)
      | inl h ↦ elim (chosen (eqb (length rest) 0) (good rows) (bad (at_line line AfterEnd)) (good all) h.1) [
        | inr g ↦ absurd (not_either all (at_line line AfterEnd) g.1)
        | inl g ↦ (eqb_is t.next 7 h.0, no_bytes rest g.0, good_is rows all g.1)
      ]
    ]

end_bad : (t : Standing) (rows : List Row) (line : ℕ) (rest : List ℕ) (x : TextFault) → at_end t rows line rest ≡ bad x
    → x.line ≡ line
end_bad t rows line rest x e =
    elim (chosen (eqb t.next 7) _ (bad (at_line line NoEnd)) (bad x) e) [
      | inr h ↦ named_line line NoEnd x h.1
      | inl h ↦ elim (chosen (eqb (length rest) 0) (good rows) (bad (at_line line AfterEnd)) (bad x) h.1) [
        | inr g ↦ named_line line AfterEnd x g.1
        | inl g ↦ absurd (not_both rows x g.1)
      ]
    ]

-- ---- what was read

pub record Read (s : Shape) (t : Standing) (rows all : List Row) (pieces : List (List ℕ)) : Type 0 where
  pub more : List Row
  pub whole : all ≡ rows ++ more
  pub keeps : Follow s t more
  pub ended : (standing t more).next ≡ 7
  pub pieces-are : pieces ≡ map row_line more ++ [] ∷ []

read_step : (s : Shape) (t : Standing) (rows all : List Row) (line : ℕ) (l : List ℕ) (pieces : List (List ℕ))
    → 0 < length pieces
    → (again : (row : Row) → read s (behind t row) (rows ++ row ∷ []) (suc line) pieces ≡ good all
    → Read s (behind t row) (rows ++ row ∷ []) all pieces)
    → (r : Result Row Why) → judge s t l ≡ r → read s t rows line (l ∷ pieces) ≡ good all
    → Read s t rows all (l ∷ pieces)
read_step s t rows all line l pieces lt again (Err why) j e =
    absurd (not_either all (at_line line why) (sym (read_ill s t rows line l pieces why lt j) ∙ e))
read_step s t rows all line l pieces lt again (Ok row) j e =
    let n = judge_takes s t l row j in
    let r = again row (sym (read_more s t rows line l pieces row lt j) ∙ e) in
    record {
      more = row ∷ r.more;
      whole = r.whole ∙ append_assoc rows (row ∷ []) r.more;
      keeps = (n.keeps, n.follows, r.keeps);
      ended = r.ended;
      pieces-are = ap (λ (k : List ℕ). k ∷ pieces) n.line-is
          ∙ ap (λ (ps : List (List ℕ)). row_line row ∷ ps) r.pieces-are;
    }

read_good : (s : Shape) (t : Standing) (rows all : List Row) (line : ℕ) (pieces : List (List ℕ))
    → read s t rows line pieces ≡ good all → Read s t rows all pieces
read_good s t rows all line [] e = absurd (not_either all (at_line line NoEnd) e)
read_good s t rows all line (p ∷ []) e =
    let h = end_good t rows all line p e in
    record {
      more = [];
      whole = sym h.2 ∙ sym (append-nil rows);
      keeps = tt;
      ended = h.0;
      pieces-are = ap (λ (q : List ℕ). q ∷ []) h.1;
    }
read_good s t rows all line (l ∷ next ∷ more) e =
    read_step s t rows all line l (next ∷ more) (omega arith)
    (λ row h. read_good s (behind t row) (rows ++ row ∷ []) all (suc line) (next ∷ more) h) (judge s t l) refl e

pub is_report : (s : Shape) (bytes : List ℕ) (all : List Row) → report_of s bytes ≡ good all
    → IsReport s all × (bytes ≡ rows_text all)
is_report s bytes all e =
    let r = read_good s at_start [] all 1 (cut newline bytes) e in
    let same : r.more ≡ all = sym r.whole in
    let keeps : IsReport s r.more = (r.keeps, r.ended) in (
      subst (IsReport s) same keeps,
      bytes_are bytes (map row_line r.more) [] [] r.pieces-are
          ∙ append-nil (rows_text r.more) ∙ ap rows_text same,
    )

-- ---- that each report is read

pub rows_are_lines : (s : Shape) (t : Standing) (rows : List Row) → Follow s t rows → AreLines (map row_line rows)
rows_are_lines s t [] h = tt
rows_are_lines s t (row ∷ rows) h = (
  line_from (row_line row) (IsFrom-line (row_fields row) (plain_row s row h.0)),
  rows_are_lines s (behind t row) rows h.2,
)

some_last : (ls : List (List ℕ)) (p : List ℕ) → 0 < length (ls ++ p ∷ [])
some_last [] p = lit< tt
some_last (l ∷ ls) p = omega arith

read_again : (s : Shape) (t : Standing) (rows more : List Row) (line : ℕ) → Follow s t more → (standing t more).next ≡ 7
    → read s t rows line (map row_line more ++ [] ∷ []) ≡ good (rows ++ more)
read_again s t rows [] line h e = rw (is_eqb t.next 7 e) (ap (λ (xs : List Row). good xs) (sym (append-nil rows)))
read_again s t rows (row ∷ more) line h e =
    read_more s t rows line (row_line row) (map row_line more ++ [] ∷ []) row (some_last (map row_line more) [])
    (judge_again s t row h.0 h.1)
    ∙ read_again s (behind t row) (rows ++ row ∷ []) more (suc line) h.2 e
    ∙ ap (λ (xs : List Row). good xs) (append_assoc rows (row ∷ []) more)

pub reads_report : (s : Shape) (rows : List Row) → IsReport s rows → report_of s (rows_text rows) ≡ good rows
reads_report s rows h =
    let pieces : cut newline (rows_text rows) ≡ map row_line rows ++ [] ∷ [] =
    ap (cut newline) (sym (append-nil (rows_text rows)))
    ∙ cut-finished (map row_line rows) [] (rows_are_lines s at_start rows h.0) in
    ap (read s at_start [] 1) pieces ∙ read_again s at_start [] rows 1 h.0 h.1

-- ---- a report goes on behind any of its beginnings

pub standing-append : (t : Standing) (xs ys : List Row) → standing t (xs ++ ys) ≡ standing (standing t xs) ys
standing-append t xs ys = fold-append behind t xs ys

pub Follow-append : (s : Shape) (t : Standing) (xs ys : List Row) → Follow s t xs → Follow s (standing t xs) ys
    → Follow s t (xs ++ ys)
Follow-append s t [] ys h k = k
Follow-append s t (x ∷ xs) ys h k = (h.0, h.1, Follow-append s (behind t x) xs ys h.2 k)

pub Follow-front : (s : Shape) (t : Standing) (xs ys : List Row) → Follow s t (xs ++ ys) → Follow s t xs
Follow-front s t [] ys h = tt
Follow-front s t (x ∷ xs) ys h = (h.0, h.1, Follow-front s (behind t x) xs ys h.2)

pub sound_behind : (s : Shape) (t : Standing) (rows : List Row) → IsSound t → Follow s t rows
    → IsSound (standing t rows)
sound_behind s t [] h k = h
sound_behind s t (row ∷ rows) h k = sound_behind s (behind t row) rows (goes_on t row h k.1).sound k.2

sound_start : IsSound at_start
sound_start = record { next = lit≤ tt; listed = lit≤ tt }

latest_self : (n : ℕ) → n ≤ latest n
latest_self n = cases (leb 2 n) (leb n 4) refl refl
  where
    cases : (a b : Bool) → leb 2 n ≡ a → leb n 4 ≡ b → n ≤ cond (a && b) 5 n
    cases true true f e = grind (arith, nat_tests)
    cases true false f e = omega arith
    cases false b f e = omega arith

latest_five : (n : ℕ) → 2 ≤ n → n ≤ 5 → 5 ≤ latest n
latest_five n low high = cases (leb 2 n) (leb n 4) refl refl
  where
    cases : (a b : Bool) → leb 2 n ≡ a → leb n 4 ≡ b → 5 ≤ cond (a && b) 5 n
    cases true true f e = lit≤ tt
    cases true false f e = grind (arith, nat_tests)
    cases false b f e = grind (arith, nat_tests)

record Finish (s : Shape) (t : Standing) : Type 0 where
  more : List Row
  keeps : Follow s t more
  ended : (standing t more).next ≡ 7

finish_row : (s : Shape) (t : Standing) (row : Row) → IsRow s row → MayFollow t row → Finish s (behind t row)
    → Finish s t
finish_row s t row h f rest = record { more = row ∷ rest.more; keeps = (h, f, rest.keeps); ended = rest.ended }

finish_total : (s : Shape) (t : Standing) → IsSound t → t.next ≡ 6 → Finish s t
finish_total s t h e =
    let self = latest_self t.next in
    let l = h.listed in
    finish_row s t (Total t.delivered t.underway) (omega (arith, l))
    (record { early = omega (arith, e); late = omega (arith, e, self); fits = (refl, refl) })
    (record { more = []; keeps = tt; ended = refl })

finish_sums : (s : Shape) (t : Standing) → IsSound t → 2 ≤ t.next → t.next ≤ 5 → Finish s t
finish_sums s t h low high =
    finish_row s t (NotOffered 0) (lit< tt) (record { early = high; late = latest_five t.next low high; fits = tt })
    (finish_total s (behind t (NotOffered 0)) (record { next = lit≤ tt; listed = h.listed }) refl)

finish_options : (s : Shape) (t : Standing) → IsSound t → t.next ≡ 1 → Finish s t
finish_options s t h e =
    let self = latest_self t.next in
    finish_row s t (Options 0 0 0) (
      lit< tt,
      lit< tt,
      lit< tt,
    ) (record { early = omega (arith, e); late = omega (arith, e, self); fits = tt })
    (finish_sums s (behind t (Options 0 0 0)) (record { next = lit≤ tt; listed = h.listed }) (lit≤ tt) (lit≤ tt))

finish_header : (s : Shape) (t : Standing) → IsSound t → t.next ≡ 0 → Finish s t
finish_header s t h e =
    let self = latest_self t.next in
    finish_row s t Header tt (record { early = omega (arith, e); late = omega (arith, e, self); fits = tt })
    (finish_options s (behind t Header) (record { next = lit≤ tt; listed = h.listed }) refl)

finish : (s : Shape) (t : Standing) → IsSound t → Finish s t
finish s t h =
    let small = h.next in
    elim (cases_lt t.next 1) [
      | inl a ↦ finish_header s t h (omega arith)
      | inr a ↦ elim (cases_lt t.next 2) [
        | inl b ↦ finish_options s t h (omega arith)
        | inr b ↦ elim (cases_lt t.next 6) [
          | inl c ↦ finish_sums s t h b (omega arith)
          | inr c ↦ elim (cases_lt t.next 7) [
            | inl d ↦ finish_total s t h (omega arith)
            | inr d ↦ record { more = []; keeps = tt; ended = omega arith }
          ]
        ]
      ]
    ]

-- bytes that begin with the lines of rows that follow one another
pub begins : (s : Shape) (bytes rest : List ℕ) (rows : List Row) (k : ℕ) → Follow s at_start rows → length rows ≡ k
    → bytes ≡ rows_text rows ++ rest → BeginsReport s bytes k
begins s bytes rest rows k keeps count first =
    let f = finish s (standing at_start rows) (sound_behind s at_start rows sound_start keeps) in
    record {
      rows = rows;
      count = count;
      rest = rest;
      first = first;
      more = f.more;
      accepted = (
        Follow-append s at_start rows f.more keeps f.keeps,
        ap (λ (t : Standing). t.next) (standing-append at_start rows f.more) ∙ f.ended,
      );
    }

-- ---- the line of a fault

record Stops (s : Shape) (t : Standing) (line : ℕ) (pieces : List (List ℕ)) (x : TextFault) : Type 0 where
  more : List Row
  p : List ℕ
  ps : List (List ℕ)
  keeps : Follow s t more
  pieces-are : pieces ≡ map row_line more ++ p ∷ ps
  at : x.line ≡ line + length more

stops_here : (s : Shape) (t : Standing) (line : ℕ) (p : List ℕ) (ps : List (List ℕ)) (x : TextFault) → x.line ≡ line
    → Stops s t line (p ∷ ps) x
stops_here s t line p ps x at = record {
  more = [];
  p = p;
  ps = ps;
  keeps = tt;
  pieces-are = refl;
  at = omega (arith, at);
}

stops_step : (s : Shape) (t : Standing) (rows : List Row) (line : ℕ) (l : List ℕ) (pieces : List (List ℕ))
    (x : TextFault) → 0 < length pieces
    → (again : (row : Row) → read s (behind t row) (rows ++ row ∷ []) (suc line) pieces ≡ bad x
    → Stops s (behind t row) (suc line) pieces x)
    → (r : Result Row Why) → judge s t l ≡ r → read s t rows line (l ∷ pieces) ≡ bad x → Stops s t line (l ∷ pieces) x
stops_step s t rows line l pieces x lt again (Err why) j e =
    stops_here s t line l pieces x (named_line line why x (sym (read_ill s t rows line l pieces why lt j) ∙ e))
stops_step s t rows line l pieces x lt again (Ok row) j e =
    let n = judge_takes s t l row j in
    let r = again row (sym (read_more s t rows line l pieces row lt j) ∙ e) in
    let at = r.at in
    record {
      more = row ∷ r.more;
      p = r.p;
      ps = r.ps;
      keeps = (n.keeps, n.follows, r.keeps);
      pieces-are = ap (λ (k : List ℕ). k ∷ pieces) n.line-is
          ∙ ap (λ (qs : List (List ℕ)). row_line row ∷ qs) r.pieces-are;
      at = omega arith;
    }

stops : (s : Shape) (t : Standing) (rows : List Row) (line : ℕ) (pieces : List (List ℕ)) (x : TextFault)
    → 0 < length pieces → read s t rows line pieces ≡ bad x → Stops s t line pieces x
stops s t rows line [] x lt e = absurd (omega arith)
stops s t rows line (p ∷ []) x lt e = stops_here s t line p [] x (end_bad t rows line p x e)
stops s t rows line (l ∷ next ∷ more) x lt e =
    stops_step s t rows line l (next ∷ more) x (omega arith)
    (λ row h. stops s (behind t row) (rows ++ row ∷ []) (suc line) (next ∷ more) x (omega arith) h)
    (judge s t l) refl e

some_behind : (ls pieces : List (List ℕ)) → 0 < length pieces → 0 < length (ls ++ pieces)
some_behind [] pieces lt = lt
some_behind (l ∷ ls) pieces lt = omega arith

-- reading stops behind all rows that follow one another
reaches : (s : Shape) (t : Standing) (rows more : List Row) (line : ℕ) (pieces : List (List ℕ)) (x : TextFault)
    → 0 < length pieces → Follow s t more
    → read s t rows line (map row_line more ++ pieces) ≡ bad x → line + length more ≤ x.line
reaches s t rows [] line pieces x lt h e = let st = stops s t rows line pieces x lt e in let at = st.at in omega arith
reaches s t rows (row ∷ more) line pieces x lt h e =
    let one = read_more s t rows line (row_line row) (map row_line more ++ pieces) row
    (some_behind (map row_line more) pieces lt) (judge_again s t row h.0 h.1) in
    let r = reaches s (behind t row) (rows ++ row ∷ []) more (suc line) pieces x lt h.2 (sym one ∙ e) in
    omega arith

pub is_fault_line : (s : Shape) (bytes : List ℕ) (x : TextFault) → report_of s bytes ≡ bad x
    → IsReportFaultLine s bytes x.line
is_fault_line s bytes x e =
    let st = stops s at_start [] 1 (cut newline bytes) x (some_piece newline bytes) e in
    let at = st.at in
    let well = begins s bytes (join_with_byte newline (st.p ∷ st.ps)) st.more (length st.more) st.keeps refl
    (bytes_are bytes (map row_line st.more) st.p st.ps st.pieces-are) in
    let longest : (k : ℕ) → BeginsReport s bytes k → k < x.line = λ k w.
    let keeps = Follow-front s at_start w.rows w.more w.accepted.0 in
    let pieces : cut newline bytes ≡ map row_line w.rows ++ cut newline w.rest =
    ap (cut newline) w.first ∙ cut-finished (map row_line w.rows) w.rest (rows_are_lines s at_start w.rows keeps) in
    let r = reaches s at_start [] w.rows 1 (cut newline w.rest) x (some_piece newline w.rest) keeps
    (ap (read s at_start [] 1) (sym pieces) ∙ e) in
    let count = w.count in
    omega arith in
    record { one_more = (length st.more, omega arith, well); longest = longest }

-- ---- the clauses of the reader

pub found : {X : Type 0} (s : Shape) (bytes : List ℕ) (view : X → List Row) (r : Result X TextFault)
    → AnswersOrFull view (RanOut s bytes) r (report_of s bytes)
    → IfOk r (λ v. IsReport s (view v) × (bytes ≡ rows_text (view v)))
found s bytes view (Ok v) h = is_report s bytes (view v) h
found s bytes view (Err x) h = tt

pub faulty : {X : Type 0} (s : Shape) (bytes : List ℕ) (view : X → List Row) (r : Result X TextFault)
    → AnswersOrFull view (RanOut s bytes) r (report_of s bytes)
    → IfErr r (λ x. RanOut s bytes x ⊎ IsReportFaultLine s bytes x.line)
faulty s bytes view (Ok v) h = tt
faulty s bytes view (Err x) (inl full) = inl full
faulty s bytes view (Err x) (inr e) = inr (is_fault_line s bytes x e)
