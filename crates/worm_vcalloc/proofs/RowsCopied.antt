-- Tables that are copied cell by cell, by rising port, then channel.
use Rattle.std.proofs.Common.{◌≡◌, ℕ, ◌+◌, ◌*◌, ◌/◌, ◌%◌, ◌<◌, List, [], length, slice_index_or}
use Rattle.std.proofs.Common.{ap, sym, ◌∙◌, arith, inl, inr}
use Rattle.std.proofs.lemmas.Bool.{cases_eq, cases_lt}
use Rattle.worm_vcalloc.specs.Table.{cell, with_cell, IsTable}
use Rattle.worm_vcalloc.proofs.TableCells.{cell-with_cell_same, cell-with_cell_other, IsTable-with_cell}
use Rattle.worm_vcalloc.proofs.TableRows.{same_tables}

-- the first n places of one table are those of another
pub record IsCopied {X : Type 0} (d : X) (from to : List (List X)) (n : ℕ) : Type 0 where
  pub shape : IsTable to
  pub same : (p v : ℕ) → p < 7 → v < 8 → 8 * p + v < n → cell to p v d ≡ cell from p v d

pub copied_none : {X : Type 0} (d : X) (from to : List (List X)) → IsTable to → IsCopied d from to 0
copied_none d from to shape = record { shape = shape; same = λ p v _ _ below. absurd (omega (arith, below)) }

-- the place after them is written
pub copied_more : {X : Type 0} (d : X) (from to : List (List X)) (n port vc : ℕ) → IsCopied d from to n → n < 56
    → port ≡ n / 8 → vc ≡ n % 8 → IsCopied d from (with_cell to port vc (cell from port vc d)) (n + 1)
copied_more d from to n port vc so_far n_in at_port at_vc =
    let p_in : port < 7 = omega arith in
    let v_in : vc < 8 = omega arith in
    let place : 8 * port + vc ≡ n = omega arith in
    record {
      shape = IsTable-with_cell to port vc (cell from port vc d) so_far.shape;
      same = λ p v lp lv below. elim (cases_eq p port) [
        | inl ep ↦ elim (cases_eq v vc) [
          | inl ev ↦
              ap (λ k. cell (with_cell to port vc (cell from port vc d)) k v d) ep
              ∙ ap (λ k. cell (with_cell to port vc (cell from port vc d)) port k d) ev
              ∙ cell-with_cell_same to port vc (cell from port vc d) d so_far.shape p_in v_in
              ∙ sym (ap (λ k. cell from k v d) ep ∙ ap (λ k. cell from port k d) ev)
          | inr other ↦
              cell-with_cell_other to port vc p v (cell from port vc d) d (λ _ e. other e)
              ∙ so_far.same p v lp lv (before p v ep other below)
        ]
        | inr other ↦
            cell-with_cell_other to port vc p v (cell from port vc d) d (λ e _. other e)
            ∙ so_far.same p v lp lv (before_port p v lv other below)
      ];
    } where
      before : (p v : ℕ) → p ≡ port → (v ≡ vc → ⊥) → 8 * p + v < n + 1 → 8 * p + v < n
      before p v ep other below = elim (cases_lt (8 * p + v) n) [
        | inl less ↦ less
        | inr past ↦ absurd (other (omega (arith, past, below, ep, at_port, at_vc)))
      ]

      before_port : (p v : ℕ) → v < 8 → (p ≡ port → ⊥) → 8 * p + v < n + 1 → 8 * p + v < n
      before_port p v lv other below = elim (cases_lt (8 * p + v) n) [
        | inl less ↦ less
        | inr past ↦ absurd (other (omega (arith, past, below, lv, at_port, at_vc)))
      ]

-- all places are copied
pub copied_all : {X : Type 0} (d : X) (from to : List (List X)) (n : ℕ) → IsCopied d from to n → n ≡ 56 → IsTable from
    → to ≡ from
copied_all d from to n so_far all shape =
    same_tables d to from so_far.shape shape (λ p v lp lv. so_far.same p v lp lv (omega arith))

-- the row that the place after them lies in is as long as those before
pub rows_more : {X : Type 0} (from : List (List X)) (n : ℕ)
    → ((p : ℕ) → 8 * p < n → length (slice_index_or from p []) ≡ 8) → length (slice_index_or from (n / 8) []) ≡ 8
    → (p : ℕ) → 8 * p < n + 1 → length (slice_index_or from p []) ≡ 8
rows_more from n before here p below = elim (cases_lt (8 * p) n) [
  | inl less ↦ before p less
  | inr past ↦
      let same : p ≡ n / 8 = omega (arith, past, below) in
      ap (λ k. length (slice_index_or from k [])) same ∙ here
]
