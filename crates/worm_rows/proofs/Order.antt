-- Which rows a reader admits, and where a report then stands.
use Rattle.std.proofs.Common.{◌≡◌, lit≤, ℕ, ◌+◌, ◌<◌, ◌≤◌, true, ◌&&◌, eqb, leb, ltb}
use Rattle.std.proofs.Common.{List, refl, subst, arith}
use Rattle.std.proofs.lemmas.Bool.Decides.{nat_tests}
use Rattle.worm_text.specs.declared.fault.Why.TheVariants.{Range, Repeated, Missing, TooMany, AfterEnd}
use Rattle.worm_text.specs.Lines.{cut, space}
use Rattle.worm_text.proofs.Names.{and_true}
use Rattle.worm_text.proofs.Binds.{fine, ok_is, bind_ok, checked_ok}
use Rattle.worm_text.proofs.Followed.{line_is}
use Rattle.worm_rows.specs.declared.shape.Shape.{Shape}
use Rattle.worm_rows.specs.declared.standing.Standing.{Standing}
use Rattle.worm_rows.specs.declared.rows.Row.{Row}
use Rattle.worm_rows.specs.declared.rows.Row.TheVariants.{Header, Options, Stopped, Delivered, Underway, NotOffered}
use Rattle.worm_rows.specs.declared.rows.Row.TheVariants.{Total}
use Rattle.worm_rows.specs.Rows.{row_fields, row_line}
use Rattle.worm_rows.specs.Rules.{IsRow, rank, latest, listed, Fits, MayFollow, behind}
use Rattle.worm_rows.specs.Reading.{row_at, fits_at, admits, judge}
use Rattle.worm_rows.proofs.StepsTake.{took_test}
use Rattle.worm_rows.proofs.RowLaws.{row_takes, row_again, cut_row}

ltb_lt : (m n : ℕ) → ltb m n ≡ true → m < n
ltb_lt m n e = grind (arith, nat_tests)

lt_ltb : (m n : ℕ) → m < n → ltb m n ≡ true
lt_ltb m n h = grind (arith, nat_tests)

leb_le : (m n : ℕ) → leb m n ≡ true → m ≤ n
leb_le m n e = grind (arith, nat_tests)

le_leb : (m n : ℕ) → m ≤ n → leb m n ≡ true
le_leb m n h = grind (arith, nat_tests)

eqb_is : (m n : ℕ) → eqb m n ≡ true → m ≡ n
eqb_is m n e = grind (arith, nat_tests)

is_eqb : (m n : ℕ) → m ≡ n → eqb m n ≡ true
is_eqb m n e = grind (arith, nat_tests)

-- ---- rows that fit

fits_takes : (t : Standing) (row found : Row) → fits_at t row ≡ fine found → Fits t row × (row ≡ found)
unfolding fits_at
fits_takes t Header found e = (tt, ok_is Header found e)
fits_takes t (Options a b c) found e = (tt, ok_is (Options a b c) found e)
fits_takes t (Stopped a b) found e = let c = checked_ok (ltb (listed t) 1000000) TooMany (Stopped a b) found e in
    (ltb_lt (listed t) 1000000 c.0, c.1)
fits_takes t (Delivered p l) found e = let c = checked_ok (ltb (listed t) 1000000) TooMany (Delivered p l) found e in
    (ltb_lt (listed t) 1000000 c.0, c.1)
fits_takes t (Underway p i l) found e = let c = checked_ok (ltb (listed t) 1000000) TooMany (Underway p i l) found e in
    (ltb_lt (listed t) 1000000 c.0, c.1)
fits_takes t (NotOffered n) found e = (tt, ok_is (NotOffered n) found e)
fits_takes t (Total d u) found e =
    let c = checked_ok (eqb d t.delivered && eqb u t.underway) Range (Total d u) found e in
    let p = and_true (eqb d t.delivered) (eqb u t.underway) c.0 in
    ((eqb_is d t.delivered p.0, eqb_is u t.underway p.1), c.1)

fits_again : (t : Standing) (row : Row) → Fits t row → fits_at t row ≡ fine row
unfolding fits_at
fits_again t Header h = refl
fits_again t (Options a b c) h = refl
fits_again t (Stopped a b) h = rw (lt_ltb (listed t) 1000000 h) refl
fits_again t (Delivered p l) h = rw (lt_ltb (listed t) 1000000 h) refl
fits_again t (Underway p i l) h = rw (lt_ltb (listed t) 1000000 h) refl
fits_again t (NotOffered n) h = refl
fits_again t (Total d u) h = rw (is_eqb d t.delivered h.0, is_eqb u t.underway h.1) refl

admits_takes : (t : Standing) (row found : Row) → admits t row ≡ fine found → MayFollow t row × (row ≡ found)
unfolding admits
admits_takes t row found e =
    let a = took_test (leb t.next (rank row)) Repeated row _ found e in
    let b = took_test (leb (rank row) (latest t.next)) Missing row _ found a.1 in
    let f = fits_takes t row found b.1 in
    (record { early = leb_le t.next (rank row) a.0; late = leb_le (rank row) (latest t.next) b.0; fits = f.0 }, f.1)

admits_again : (t : Standing) (row : Row) → MayFollow t row → admits t row ≡ fine row
unfolding admits
admits_again t row h = rw (
  le_leb t.next (rank row) h.early,
  le_leb (rank row) (latest t.next) h.late,
) (fits_again t row h.fits)

-- ---- a line

-- a row and its line
pub record IsNext (s : Shape) (t : Standing) (l : List ℕ) (row : Row) : Type 0 where
  pub line-is : l ≡ row_line row
  pub keeps : IsRow s row
  pub follows : MayFollow t row

pub judge_takes : (s : Shape) (t : Standing) (l : List ℕ) (row : Row) → judge s t l ≡ fine row → IsNext s t l row
unfolding judge
judge_takes s t l row e =
    let a = took_test (ltb t.next 7) AfterEnd l _ row e in
    let r = bind_ok (row_at s (cut space l)) (λ found. admits t found) row a.1 in
    let k = row_takes s (cut space l) r.0 r.1 in
    let f = admits_takes t r.0 row r.2 in
    let taken : IsNext s t l r.0 = record { line-is = line_is l (row_fields r.0) k.0; keeps = k.1; follows = f.0 } in
    subst (λ (x : Row). IsNext s t l x) f.1 taken

rank_small : (row : Row) → rank row ≤ 6
rank_small Header = lit≤ tt
rank_small (Options a b c) = lit≤ tt
rank_small (Stopped a b) = lit≤ tt
rank_small (Delivered p l) = lit≤ tt
rank_small (Underway p i l) = lit≤ tt
rank_small (NotOffered n) = lit≤ tt
rank_small (Total d u) = lit≤ tt

pub judge_again : (s : Shape) (t : Standing) (row : Row) → IsRow s row → MayFollow t row
    → judge s t (row_line row) ≡ fine row
unfolding judge
judge_again s t row h f =
    let open_end : ltb t.next 7 ≡ true = lt_ltb t.next 7 (omega (arith, f.early, rank_small row)) in
    rw (open_end, cut_row s row h, row_again s row h) (admits_again t row f)

-- ---- where a report stands

pub record IsSound (t : Standing) : Type 0 where
  pub next : t.next ≤ 7
  pub listed : listed t ≤ 1000000

pub record GoesOn (t u : Standing) : Type 0 where
  pub sound : IsSound u
  pub more : t.next + listed t < u.next + listed u

pub goes_on : (t : Standing) (row : Row) → IsSound t → MayFollow t row → GoesOn t (behind t row)
goes_on t Header h f = let e = f.early in
    record { sound = record { next = lit≤ tt; listed = h.listed }; more = omega arith }
goes_on t (Options a b c) h f = let e = f.early in
    record { sound = record { next = lit≤ tt; listed = h.listed }; more = omega arith }
goes_on t (Stopped a b) h f = let e = f.early in let lt : listed t < 1000000 = f.fits in
    record { sound = record { next = lit≤ tt; listed = omega arith }; more = omega arith }
goes_on t (Delivered p l) h f = let e = f.early in let lt : listed t < 1000000 = f.fits in
    record { sound = record { next = lit≤ tt; listed = omega arith }; more = omega arith }
goes_on t (Underway p i l) h f = let e = f.early in let lt : listed t < 1000000 = f.fits in
    record { sound = record { next = lit≤ tt; listed = omega arith }; more = omega arith }
goes_on t (NotOffered n) h f = let e = f.early in
    record { sound = record { next = lit≤ tt; listed = h.listed }; more = omega arith }
goes_on t (Total d u) h f = let e = f.early in
    record { sound = record { next = lit≤ tt; listed = h.listed }; more = omega arith }
