-- One write after another.
use Rattle.std.proofs.Common.{◌≡◌, ◌≢◌, ℕ, zero, suc, inl, inr, ◌+◌, ◌-◌, ◌≤◌, ◌<◌, List, [], ◌∷◌, ◌++◌, length, take}
use Rattle.std.proofs.Common.{drop, map, get_or, Option, Result, Ok, Err, refl, sym, ap, subst, ◌∙◌}
use Rattle.std.proofs.Common.{append_assoc, arith}
use Rattle.std.specs.Prelude.{OnOk, OnErr, IfErr}
use Rattle.std.specs.Borrow.{GName}
use Rattle.std.specs.Result.{IsErr, IsErrAnd, result_and}
use Rattle.std.specs.List.{flat_map, range_with_len}
use Rattle.std.specs.Io.KnownBytes.{Appends}
use Rattle.std.proofs.KnownBytes.{Appends-nil, Appends-trans}
use Rattle.std.proofs.lemmas.Bool.{cases_lt}
use Rattle.std.proofs.lemmas.List.{append-nil, take-append-drop, take_all, length-drop, take_more, map_push, map-append}
use Rattle.std.proofs.lemmas.List.Concat.{flat_map-append}
use Rattle.worm_report.specs.declared.row.Row.{Row}
use Rattle.worm_report.specs.declared.summary.ReportFault.{ReportFault}
use Rattle.worm_report.specs.declared.summary.ReportFault.TheVariants.{NoMemory, Write}
use Rattle.worm_report.specs.Rows.{row_text, rows_text}
use Rattle.worm_report.specs.Report.{rows_below}
use Rattle.worm_report.specs.Writing.{AreLines, MakesLines, Standing, Writes, WritesLines, WritesRows}
use Rattle.worm_report.specs.Writing.{WritesOrBreaksOff}

abbrev pub Answer : Type 0
Answer = Result (Unit {0}) ReportFault

abbrev pub done : Answer
done = Ok tt

-- ---- what is empty

front_empty : (xs ys : List ℕ) → xs ++ ys ≡ [] → xs ≡ []
front_empty [] ys e = refl
front_empty (x ∷ xs) ys e = absurd (cc)

back_empty : (xs ys : List ℕ) → xs ++ ys ≡ [] → ys ≡ []
back_empty [] ys e = e
back_empty (x ∷ xs) ys e = absurd (cc)

one_is_there : (x : ℕ) → ◌≡◌ {A = List ℕ} (x ∷ []) [] → ⊥
one_is_there x e = absurd (cc)

-- a line is there, if only by its end
line_is_there : (row : Row) (rows : List Row) → rows_text (row ∷ rows) ≢ []
unfolding row_text
line_is_there row rows none =
    one_is_there 10 (back_empty _ (10 ∷ []) (front_empty (row_text row) (rows_text rows) none))

-- ---- faults

on_err : (r : Answer) (P : Type 0) → IsErr r → OnOk r P
on_err (Ok u) P h = absurd cc
on_err (Err x) P h = tt

on_fault : (r : Answer) (P : Type 0) → P → OnErr r P
on_fault (Ok u) P h = tt
on_fault (Err x) P h = h

-- of want of memory, where this holds then
abbrev OfWant : Answer → Type 0 → Type 0
OfWant r P = IfErr r (λ fault. fault ≡ NoMemory → P)

if_fault : (r : Answer) (P : Type 0) → P → OfWant r P
if_fault (Ok u) P h = tt
if_fault (Err x) P h = λ want. h

if_more : (r : Answer) (P Q : Type 0) → (P → Q) → OfWant r P → OfWant r Q
if_more (Ok u) P Q on h = tt
if_more (Err x) P Q on h = λ want. on (h want)

apart : ◌≡◌ {A = ReportFault} Write NoMemory → ⊥
apart e = absurd (cc)

-- a writer's fault is no want of memory
never_want : (r : Answer) (P : Type 0) → IfErr r (λ fault. fault ≡ Write) → OfWant r P
never_want (Ok u) P h = tt
never_want (Err x) P h = λ want. absurd (apart (sym h ∙ want))

-- a fault that is passed on
abbrev pub Passes : ReportFault → Answer → Type 0
Passes fault r = IsErrAnd r (λ passed. passed ≡ fault)

on_passed : (r : Answer) (fault : ReportFault) (P : Type 0) → Passes fault r → OnOk r P
on_passed (Ok u) fault P h = absurd h
on_passed (Err x) fault P h = tt

if_passed : (r : Answer) (fault : ReportFault) (P : Type 0) → Passes fault r → (fault ≡ NoMemory → P) → OfWant r P
if_passed (Ok u) fault P h on = tt
if_passed (Err x) fault P h on = λ want. on (sym h ∙ want)

-- ---- bytes

-- one turn of the loop that gives what is left
pub given_more : (a b c : Option (List ℕ)) (bytes front rest : List ℕ) (n : ℕ) → bytes ≡ front ++ rest
    → Appends a b front → Appends b c (take n rest)
    → (more : List ℕ) × (bytes ≡ more ++ take (length rest - n) (drop n rest)) × Appends a c more
given_more a b c bytes front rest n whole h k =
    let tail : take (length rest - n) (drop n rest) ≡ drop n rest =
    take_all (length rest - n) (drop n rest) (omega (arith, length-drop n rest)) in (
      front ++ take n rest,
      whole ∙ ap (λ (z : List ℕ). front ++ z) (sym (take-append-drop n rest))
          ∙ sym (append_assoc front (take n rest) (drop n rest))
          ∙ ap (λ (z : List ℕ). (front ++ take n rest) ++ z) (sym tail),
      Appends-trans a b c front (take n rest) h k,
    )

-- ---- rows

-- nothing was made
pub no_rows : {a : Standing} → WritesRows a a done []
no_rows {a = a} =
    record { front = []; rest = []; whole = refl; given = Appends-nil a.given; same = refl; all = refl; lines = tt }

-- So much of what lay on the page and was made was given, and a fault is passed on.
part : {a b : Standing} {r : Answer} (fault : ReportFault) (rows : List Row) (front rest : List ℕ) → Passes fault r
    → a.page ++ rows_text rows ≡ front ++ b.page ++ rest
    → Appends a.given b.given front → b.writer ≡ a.writer → (fault ≡ NoMemory → MakesLines a.page (front ++ b.page))
    → WritesRows a b r rows
part {a = a} {b = b} {r = r} fault rows front rest passed whole given same lines = record {
  front = front;
  rest = rest;
  whole = whole;
  given = given;
  same = same;
  all = on_passed r fault (rest ≡ []) passed;
  lines = if_passed r fault (MakesLines a.page (front ++ b.page)) passed lines;
}

-- there was no memory for the first of them
pub no_memory : {a : Standing} (rows : List Row) → WritesRows a a (Err NoMemory) rows
no_memory {a = a} rows =
    part NoMemory rows [] (rows_text rows) refl refl (Appends-nil a.given) refl (λ want. ([], append-nil a.page))

-- a fault, and rows behind it
pub rows_stop : {a b : Standing} {r : Answer} {fault : ReportFault} (xs ys : List Row) → Passes fault r
    → WritesRows a b (Err fault) xs → WritesRows a b r (xs ++ ys)
rows_stop {a = a} {b = b} {fault = fault} xs ys passed w =
    part fault (xs ++ ys) w.front (w.rest ++ rows_text ys) passed
    (ap (λ (z : List ℕ). a.page ++ z) (flat_map-append row_text xs ys)
    ∙ sym (append_assoc a.page (rows_text xs) (rows_text ys))
    ∙ ap (λ (z : List ℕ). z ++ rows_text ys) w.whole ∙ append_assoc (w.front ++ b.page) w.rest (rows_text ys))
    w.given w.same w.lines

-- what was made without a fault was given, or lies on the page
all_made : {a b : Standing} (rows : List Row) (w : WritesRows a b done rows)
    → a.page ++ rows_text rows ≡ w.front ++ b.page
all_made {b = b} rows w = w.whole ∙ ap (λ (z : List ℕ). w.front ++ b.page ++ z) w.all ∙ append-nil (w.front ++ b.page)

-- the lines of the first rows were all made, and then some of the others
lines_then : {a b : Standing} (xs : List Row) (w : WritesRows a b done xs) (front page : List ℕ)
    → MakesLines b.page (front ++ page) → MakesLines a.page ((w.front ++ front) ++ page)
lines_then {a = a} {b = b} xs w front page made = (
  xs ++ made.0,
  ap (λ (z : List ℕ). a.page ++ z) (flat_map-append row_text xs made.0)
      ∙ sym (append_assoc a.page (rows_text xs) (rows_text made.0))
      ∙ ap (λ (z : List ℕ). z ++ rows_text made.0) (all_made xs w) ∙ append_assoc w.front b.page (rows_text made.0)
      ∙ ap (λ (z : List ℕ). w.front ++ z) made.1 ∙ sym (append_assoc w.front front page),
)

-- the second write decides
pub rows_then : {a b c : Standing} {r : Answer} (xs ys : List Row) → WritesRows a b done xs → WritesRows b c r ys
    → WritesRows a c r (xs ++ ys)
rows_then {a = a} {b = b} {c = c} {r = r} xs ys h k = record {
  front = h.front ++ k.front;
  rest = k.rest;
  whole =
      ap (λ (z : List ℕ). a.page ++ z) (flat_map-append row_text xs ys)
      ∙ sym (append_assoc a.page (rows_text xs) (rows_text ys))
      ∙ ap (λ (z : List ℕ). z ++ rows_text ys) (all_made xs h) ∙ append_assoc h.front b.page (rows_text ys)
      ∙ ap (λ (z : List ℕ). h.front ++ z) (k.whole ∙ append_assoc k.front c.page k.rest)
      ∙ sym (append_assoc h.front k.front (c.page ++ k.rest)) ∙ sym (append_assoc (h.front ++ k.front) c.page k.rest);
  given = Appends-trans a.given b.given c.given h.front k.front h.given k.given;
  same = k.same ∙ h.same;
  all = k.all;
  lines = if_more r (MakesLines b.page (k.front ++ c.page)) (MakesLines a.page ((h.front ++ k.front) ++ c.page))
      (lines_then xs h k.front c.page) k.lines;
}

-- ---- rows broken off

-- a fault, and a row at least behind it
pub breaks_off : {a b : Standing} {r : Answer} {fault : ReportFault} (xs : List Row) (y : Row) (ys : List Row)
    → Passes fault r → WritesRows a b (Err fault) xs → WritesOrBreaksOff a b r (xs ++ y ∷ ys)
unfolding rows_stop part
breaks_off {r = r} xs y ys passed w = record {
  written = rows_stop xs (y ∷ ys) passed w;
  more = on_fault r (w.rest ++ rows_text (y ∷ ys) ≢ [])
      (λ none. line_is_there y ys (back_empty w.rest (rows_text (y ∷ ys)) none));
}

-- the same, where the fault came before some of the rows
pub breaks_off_before : {a b : Standing} {r : Answer} {fault : ReportFault} (xs zs : List Row) (y : Row)
    (ys : List Row) → Passes fault r → WritesRows a b (Err fault) xs → WritesOrBreaksOff a b r (xs ++ zs ++ y ∷ ys)
breaks_off_before {fault = fault} xs zs y ys passed w =
    breaks_off (xs ++ zs) y ys passed (rows_stop {r = Err fault} xs zs refl w)

pub then_breaks_off : {a b c : Standing} {r : Answer} (xs ys : List Row) → WritesRows a b done xs
    → WritesOrBreaksOff b c r ys → WritesOrBreaksOff a c r (xs ++ ys)
unfolding rows_then
then_breaks_off xs ys h k = record { written = rows_then xs ys h k.written; more = k.more }

-- a fault before the first line
pub none_begun : {a : Option (List ℕ)} {r : Answer} (row : Row) (rows : List Row) → IsErr r
    → WritesLines a a r (rows_text (row ∷ rows))
none_begun {a = a} {r = r} row rows e = record {
  front = [];
  rest = rows_text (row ∷ rows);
  whole = refl;
  given = Appends-nil a;
  all = on_err r (rows_text (row ∷ rows) ≡ []) e;
  more = if_fault r ((rows_text (row ∷ rows) ≢ []) × AreLines []) (line_is_there row rows, ([], refl));
}

-- ---- pages

abbrev pub stands : Option (List ℕ) → List ℕ → GName → Standing
stands given page writer = record { given = given; page = page; writer = writer }

-- the page was written, or a first part of it, and is empty
pub page_turned : {old new : Option (List ℕ)} {writer : GName} {r : Answer} (was now : List ℕ) → now ≡ []
    → Writes old new r was → WritesRows (stands old was writer) (stands new now writer) r []
page_turned {r = r} was now empty w = record {
  front = w.front;
  rest = w.rest;
  whole = append-nil was ∙ w.whole ∙ ap (λ (z : List ℕ). z ++ w.rest) (sym (append-nil w.front))
      ∙ ap (λ (z : List ℕ). w.front ++ z ++ w.rest) (sym empty);
  given = w.given;
  same = refl;
  all = w.all;
  lines = never_want r (MakesLines was (w.front ++ now)) w.fault;
}

-- a line was put on the page, or there was no memory for it
pub line_added : {given : Option (List ℕ)} {writer : GName} (r : Answer) (was now : List ℕ) (row : Row)
    → OnOk r (now ≡ was ++ row_text row) → OnErr r (now ≡ was)
    → WritesOrBreaksOff (stands given was writer) (stands given now writer) r (row ∷ [])
line_added {given = given} (Ok u) was now row ok err = record {
  written = record {
    front = [];
    rest = [];
    whole = ap (λ (z : List ℕ). was ++ z) (append-nil (row_text row)) ∙ sym ok ∙ sym (append-nil now);
    given = Appends-nil given;
    same = refl;
    all = refl;
    lines = tt;
  };
  more = tt;
}
line_added {given = given} (Err e) was now row ok err = record {
  written = record {
    front = [];
    rest = rows_text (row ∷ []);
    whole = ap (λ (z : List ℕ). z ++ rows_text (row ∷ [])) (sym err);
    given = Appends-nil given;
    same = refl;
    all = tt;
    lines = λ want. ([], append-nil was ∙ sym err);
  };
  more = line_is_there row [];
}

both_done : (s r : Answer) (rest more : List ℕ) → OnOk r (rest ≡ []) → OnOk s (more ≡ [])
    → OnOk (result_and s r) (more ++ rest ≡ [])
both_done (Ok u) (Ok v) rest more no_rest no_more = ap (λ (z : List ℕ). z ++ rest) no_more ∙ no_rest
both_done (Ok u) (Err e) rest more no_rest no_more = tt
both_done (Err e) r rest more no_rest no_more = tt

-- Where memory ran out the page was closed all the same: the lines that were made are out.
both_lines : (s r : Answer) (page given front left rest : List ℕ) → page ≡ front ++ left → OnOk s (left ≡ [])
    → IfErr s (λ fault. fault ≡ Write) → OnErr r (rest ≢ []) → OfWant r (MakesLines [] (given ++ page))
    → OfWant (result_and s r) ((left ++ rest ≢ []) × AreLines (given ++ front))
both_lines (Ok u) (Ok v) page given front left rest whole none fault more lines = tt
both_lines (Ok u) (Err e) page given front left rest whole none fault more lines = λ want.
    let made = lines want in
    let out : page ≡ front = whole ∙ ap (λ (z : List ℕ). front ++ z) none ∙ append-nil front in (
      λ empty. more (back_empty left rest empty),
      (made.0, sym (made.1 ∙ ap (λ (z : List ℕ). given ++ z) out)),
    )
both_lines (Err e) r page given front left rest whole none fault more lines = λ want. absurd (apart (sym fault ∙ want))

-- All rows were made, or up to a fault, and then the page was closed.
pub report_closed : {a b c : Option (List ℕ)} {opened left : GName} {r s : Answer} (fresh page : List ℕ)
    (rows : List Row) → fresh ≡ []
    → WritesOrBreaksOff (stands a fresh opened) (stands b page left) r rows → Writes b c s page
    → WritesLines a c (result_and s r) (rows_text rows)
report_closed {a = a} {b = b} {c = c} {r = r} {s = s} fresh page rows empty off closed =
    let made = off.written in
    let lines : OfWant r (MakesLines [] (made.front ++ page)) =
    subst (λ (z : List ℕ). OfWant r (MakesLines z (made.front ++ page))) empty made.lines in
    record {
      front = made.front ++ closed.front;
      rest = closed.rest ++ made.rest;
      whole =
          ap (λ (z : List ℕ). z ++ rows_text rows) (sym empty) ∙ made.whole
          ∙ ap (λ (z : List ℕ). made.front ++ z ++ made.rest) closed.whole
          ∙ ap (λ (z : List ℕ). z ++ made.rest) (sym (append_assoc made.front closed.front closed.rest))
          ∙ append_assoc (made.front ++ closed.front) closed.rest made.rest;
      given = Appends-trans a b c made.front closed.front made.given closed.given;
      all = both_done s r made.rest closed.rest made.all closed.all;
      more = both_lines s r page made.front closed.front closed.rest made.rest closed.whole closed.all closed.fault
          off.more lines;
    }

pub same_rows : {a b : Standing} {r : Answer} (xs ys : List Row) → xs ≡ ys → WritesRows a b r xs → WritesRows a b r ys
same_rows {a = a} {b = b} {r = r} xs ys e w = subst (λ (rows : List Row). WritesRows a b r rows) e w

pub same_broken_off : {a b : Standing} {r : Answer} (xs ys : List Row) → xs ≡ ys → WritesOrBreaksOff a b r xs
    → WritesOrBreaksOff a b r ys
same_broken_off {a = a} {b = b} {r = r} xs ys e w = subst (λ (rows : List Row). WritesOrBreaksOff a b r rows) e w

-- ---- a loop over numbers

range_more : (from n : ℕ) → range_with_len from (suc n) ≡ range_with_len from n ++ (from + n) ∷ []
range_more from zero = ap (λ (k : ℕ). k ∷ []) (omega arith)
range_more from (suc n) =
    let next : from + 1 + n ≡ from + suc n = omega arith in
    ap (λ (ks : List ℕ). from ∷ ks) (range_more (from + 1) n
    ∙ ap (λ (k : ℕ). range_with_len (from + 1) n ++ k ∷ []) next)

pub below_suc : (f : ℕ → List Row) (i : ℕ) → rows_below f (suc i) ≡ rows_below f i ++ f i
unfolding rows_below
below_suc f i =
    ap (flat_map f) (range_more 0 i) ∙ flat_map-append f (range_with_len 0 i) ((0 + i) ∷ [])
    ∙ ap (λ (rows : List Row). flat_map f (range_with_len 0 i) ++ rows) (append-nil (f (0 + i)))
    ∙ ap (λ (k : ℕ). flat_map f (range_with_len 0 i) ++ f k) (omega arith)

below_last : (f : ℕ → List Row) (i : ℕ) → rows_below f (i + 1) ≡ rows_below f i ++ f i
below_last f i = ap (rows_below f) (omega arith) ∙ below_suc f i

below_split : (f : ℕ → List Row) (i n : ℕ) → i ≤ n → (more : List Row) × (rows_below f n ≡ rows_below f i ++ more)
below_split f i zero le = ([], ap (rows_below f) (let e : 0 ≡ i = omega arith in e) ∙ sym (append-nil (rows_below f i)))
below_split f i (suc n) le = elim (cases_lt n i) [
  | inl lt ↦ ([], ap (rows_below f) (let e : suc n ≡ i = omega arith in e) ∙ sym (append-nil (rows_below f i)))
  | inr le ↦ let m = below_split f i n le in
      (m.0 ++ f n, below_suc f n ∙ ap (λ (rows : List Row). rows ++ f n) m.1 ∙ append_assoc (rows_below f i) m.0 (f n))
]

pub below_none : {a : Standing} (f : ℕ → List Row) → WritesRows a a done (rows_below f 0)
unfolding rows_below
below_none f = no_rows

pub below_then : {a b c : Standing} (f : ℕ → List Row) (i : ℕ) → WritesRows a b done (rows_below f i)
    → WritesRows b c done (f i) → WritesRows a c done (rows_below f (i + 1))
below_then f i h k = same_rows (rows_below f i ++ f i) (rows_below f (i + 1)) (sym (below_last f i))
    (rows_then (rows_below f i) (f i) h k)

pub below_stop : {a b c : Standing} {r : Answer} {fault : ReportFault} (f : ℕ → List Row) (i n : ℕ) → i < n
    → Passes fault r → WritesRows a b done (rows_below f i) → WritesRows b c (Err fault) (f i)
    → WritesRows a c r (rows_below f n)
below_stop f i n lt passed h k =
    let m = below_split f (i + 1) n (omega arith) in
    let here = same_rows (rows_below f i ++ f i) (rows_below f (i + 1)) (sym (below_last f i))
    (rows_then (rows_below f i) (f i) h k) in
    same_rows (rows_below f (i + 1) ++ m.0) (rows_below f n) (sym m.1)
    (rows_stop (rows_below f (i + 1)) m.0 passed here)

pub below_all : {a b : Standing} {r : Answer} (f : ℕ → List Row) (i n : ℕ) → i ≡ n → WritesRows a b r (rows_below f i)
    → WritesRows a b r (rows_below f n)
below_all f i n e w = same_rows (rows_below f i) (rows_below f n) (ap (rows_below f) e) w

-- ---- a loop over a list

each_last : {X : Type 0} (row : X → Row) (xs : List X) (i : ℕ) (d : X) → i < length xs
    → map row (take (i + 1) xs) ≡ map row (take i xs) ++ row (get_or xs i d) ∷ []
each_last row xs i d lt = ap (map row) (take_more xs i d lt) ∙ map_push row (take i xs) (get_or xs i d)

pub each_then : {X : Type 0} {a b c : Standing} (row : X → Row) (xs : List X) (i : ℕ) (d : X) → i < length xs
    → WritesRows a b done (map row (take i xs)) → WritesRows b c done (row (get_or xs i d) ∷ [])
    → WritesRows a c done (map row (take (i + 1) xs))
each_then row xs i d lt h k =
    same_rows (map row (take i xs) ++ row (get_or xs i d) ∷ []) (map row (take (i + 1) xs))
    (sym (each_last row xs i d lt)) (rows_then (map row (take i xs)) (row (get_or xs i d) ∷ []) h k)

pub each_stop : {X : Type 0} {a b c : Standing} {r : Answer} {fault : ReportFault} (row : X → Row) (xs : List X)
    (i : ℕ) (d : X) → i < length xs → Passes fault r → WritesRows a b done (map row (take i xs))
    → WritesRows b c (Err fault) (row (get_or xs i d) ∷ []) → WritesRows a c r (map row xs)
each_stop row xs i d lt passed h k =
    let front = map row (take i xs) ++ row (get_or xs i d) ∷ [] in
    let back = map row (drop (i + 1) xs) in
    let parts : front ++ back ≡ map row xs =
    ap (λ (ys : List Row). ys ++ back) (sym (each_last row xs i d lt))
    ∙ sym (map-append row (take (i + 1) xs) (drop (i + 1) xs)) ∙ ap (map row) (take-append-drop (i + 1) xs) in
    same_rows (front ++ back) (map row xs) parts
    (rows_stop front back passed (rows_then (map row (take i xs)) (row (get_or xs i d) ∷ []) h k))
