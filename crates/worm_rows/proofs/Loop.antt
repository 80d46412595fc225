-- The reader's loop.
use Rattle.std.proofs.Common.{◌≡◌, lit≤, ℕ, suc, ◌+◌, ◌<◌, ◌≤◌, List, [], ◌∷◌, ◌++◌, length, map, Err, refl}
use Rattle.std.proofs.Common.{sym, ap, subst, ◌∙◌, append_assoc, arith, add-one}
use Rattle.std.proofs.lemmas.List.{length_push, map_push}
use Rattle.std.specs.List.{join_with_byte}
use Rattle.worm_text.specs.declared.fault.Why.{Why}
use Rattle.worm_text.specs.Lines.{cut, newline}
use Rattle.worm_text.specs.Reader.{at_line}
use Rattle.worm_text.proofs.Binds.{fine, fault}
use Rattle.worm_text.proofs.Cuts.{bytes_are}
use Rattle.worm_text.proofs.ReadLines.{some_piece}
use Rattle.worm_rows.specs.declared.shape.Shape.{Shape}
use Rattle.worm_rows.specs.declared.standing.Standing.{Standing}
use Rattle.worm_rows.specs.declared.rows.Row.{Row}
use Rattle.worm_rows.specs.Rows.{row_line}
use Rattle.worm_rows.specs.Rules.{Follow, listed, behind, standing, at_start}
use Rattle.worm_rows.specs.Reading.{judge}
use Rattle.worm_rows.specs.Report.{at_end, read, report_of, BeginsReport}
use Rattle.worm_rows.proofs.Order.{IsSound, judge_takes, goes_on}
use Rattle.worm_rows.proofs.Readings.{read_more, read_ill, begins, standing-append, Follow-append}

-- the rows so far are those of the lines before this one, and reading goes on with the rest
pub record SoFar (s : Shape) (t : Standing) (rows : List Row) (line : ℕ) (rest bytes : List ℕ) : Type 0 where
  pub reading : read s t rows line (cut newline rest) ≡ report_of s bytes
  pub sound : IsSound t
  pub small : line ≤ suc (t.next + listed t)
  pub keeps : Follow s at_start rows
  pub stands : standing at_start rows ≡ t
  pub count : line ≡ suc (length rows)
  pub pieces-are : cut newline bytes ≡ map row_line rows ++ cut newline rest

pub begun : (s : Shape) (bytes : List ℕ) → SoFar s at_start [] 1 bytes bytes
begun s bytes = record {
  reading = refl;
  sound = record { next = lit≤ tt; listed = lit≤ tt };
  small = lit≤ tt;
  keeps = tt;
  stands = refl;
  count = refl;
  pieces-are = refl;
}

pub one_more : (s : Shape) (t : Standing) (rows : List Row) (line : ℕ) (rest bytes front after : List ℕ) (row : Row)
    → SoFar s t rows line rest bytes → cut newline rest ≡ front ∷ cut newline after
    → judge s t front ≡ fine row → SoFar s (behind t row) (rows ++ row ∷ []) (line + 1) after bytes
one_more s t rows line rest bytes front after row h cuts j =
    let n = judge_takes s t front row j in
    let g = goes_on t row h.sound n.follows in
    let m = g.more in
    let small = h.small in
    let count = h.count in
    let here : Follow s (standing at_start rows) (row ∷ []) =
    subst (λ (u : Standing). Follow s u (row ∷ [])) (sym h.stands) (n.keeps, n.follows, tt) in
    record {
      reading = rw add-one (sym (read_more s t rows line front (cut newline after) row (some_piece newline after) j)
          ∙ ap (read s t rows line) (sym cuts) ∙ h.reading);
      sound = g.sound;
      small = omega arith;
      keeps = Follow-append s at_start rows (row ∷ []) h.keeps here;
      stands = standing-append at_start rows (row ∷ []) ∙ ap (λ (u : Standing). behind u row) h.stands;
      count = omega (arith, length_push rows row);
      pieces-are = h.pieces-are ∙ ap (λ (ps : List (List ℕ)). map row_line rows ++ ps)
          (cuts ∙ ap (λ (l : List ℕ). l ∷ cut newline after) n.line-is)
          ∙ sym (append_assoc (map row_line rows) (row_line row ∷ []) (cut newline after))
          ∙ ap (λ (ls : List (List ℕ)). ls ++ cut newline after) (sym (map_push row_line rows row));
    }

pub ill : (s : Shape) (t : Standing) (rows : List Row) (line : ℕ) (rest bytes front after : List ℕ) (why : Why)
    → SoFar s t rows line rest bytes → cut newline rest ≡ front ∷ cut newline after
    → judge s t front ≡ fault why → report_of s bytes ≡ Err (at_line line why)
ill s t rows line rest bytes front after why h cuts j =
    sym h.reading ∙ ap (read s t rows line) cuts
    ∙ read_ill s t rows line front (cut newline after) why (some_piece newline after) j

pub over : (s : Shape) (t : Standing) (rows : List Row) (line : ℕ) (rest bytes : List ℕ)
    → SoFar s t rows line rest bytes → cut newline rest ≡ rest ∷ [] → report_of s bytes ≡ at_end t rows line rest
over s t rows line rest bytes h cuts = sym h.reading ∙ ap (read s t rows line) cuts

-- the rows so far begin a report
pub begun_well : (s : Shape) (t : Standing) (rows : List Row) (line k : ℕ) (rest bytes : List ℕ)
    → SoFar s t rows line rest bytes → line ≡ k + 1 → BeginsReport s bytes k
begun_well s t rows line k rest bytes h at = cases (cut newline rest) (some_piece newline rest) h.pieces-are
  where
    cases : (ps : List (List ℕ)) → 0 < length ps → cut newline bytes ≡ map row_line rows ++ ps → BeginsReport s bytes k
    cases [] lt e = absurd (omega arith)
    cases (p ∷ ps) lt e = let count = h.count in
        begins s bytes (join_with_byte newline (p ∷ ps)) rows k h.keeps (omega arith)
        (bytes_are bytes (map row_line rows) p ps e)
