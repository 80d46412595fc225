-- Tables that a function fills: their cells and their shape.
use Rattle.std.proofs.Common.{◌≡◌, ℕ, ◌<◌, List, [], length, map, slice_index_or, arith, ap, sym, ◌∙◌, inl, inr}
use Rattle.std.specs.List.{range_with_len}
use Rattle.std.proofs.lemmas.Bool.{cases_eq}
use Rattle.std.proofs.lemmas.List.{ext_get_or}
use Rattle.std.proofs.lemmas.List.FromFn.{get_or-map-range_with_len, length-map-range_with_len}
use Rattle.worm_vcalloc.specs.Table.{cell, with_cell, IsTable, table}
use Rattle.worm_vcalloc.proofs.TableCells.{cell-with_cell_same, cell-with_cell_other, IsTable-with_cell}

-- two tables with the same cells are one
pub same_tables : {X : Type 0} (d : X) (s t : List (List X)) → IsTable s → IsTable t
    → ((p v : ℕ) → p < 7 → v < 8 → cell s p v d ≡ cell t p v d) → s ≡ t
same_tables d s t first second same =
    ext_get_or [] s t (first.rows ∙ sym second.rows) (λ p below.
    let p_in : p < 7 = omega (arith, below, first.rows) in
    let long : length (slice_index_or s p []) ≡ 8 = first.columns p p_in in
    ext_get_or d (slice_index_or s p []) (slice_index_or t p []) (long ∙ sym (second.columns p p_in)) (λ v inside.
    same p v p_in (omega (arith, inside, long))))

pub cell-table : {X : Type 0} (f : ℕ → ℕ → X) (p v : ℕ) (d : X) → p < 7 → v < 8 → cell (table f) p v d ≡ f p v
unfolding table
cell-table f p v d p_in v_in =
    ap (λ (row : List _). slice_index_or row v d)
    (get_or-map-range_with_len (λ port. map (f port) (range_with_len 0 8)) 0 7 p p [] p_in (omega arith))
    ∙ get_or-map-range_with_len (f p) 0 8 v v d v_in (omega arith)

pub IsTable-table : {X : Type 0} (f : ℕ → ℕ → X) → IsTable (table f)
unfolding table
IsTable-table f = record {
  rows = length-map-range_with_len (λ port. map (f port) (range_with_len 0 8)) 0 7;
  columns = λ p p_in.
      ap length (get_or-map-range_with_len (λ port. map (f port) (range_with_len 0 8)) 0 7 p p [] p_in (omega arith))
      ∙ length-map-range_with_len (f p) 0 8;
}

-- a function that says something else of one place alone fills the table that is written there
pub table-with_cell : {X : Type 0} (f g : ℕ → ℕ → X) (port channel : ℕ) (x d : X) → port < 7 → channel < 8
    → g port channel ≡ x
    → ((p v : ℕ) → p < 7 → v < 8 → ((p ≡ port) → (v ≡ channel) → ⊥) → g p v ≡ f p v)
    → table g ≡ with_cell (table f) port channel x
table-with_cell f g port channel x d port_in channel_in here elsewhere =
    same_tables d (table g) (with_cell (table f) port channel x) (IsTable-table g)
    (IsTable-with_cell (table f) port channel x (IsTable-table f)) (λ p v p_in v_in.
    cell-table g p v d p_in v_in ∙ (elim (cases_eq p port) [
      | inl ep ↦ elim (cases_eq v channel) [
        | inl ev ↦
            ap (λ k. g k v) ep ∙ ap (g port) ev ∙ here
            ∙ sym (ap (λ k. cell (with_cell (table f) port channel x) k v d) ep
            ∙ ap (λ k. cell (with_cell (table f) port channel x) port k d) ev
            ∙ cell-with_cell_same (table f) port channel x d (IsTable-table f) port_in channel_in)
        | inr other ↦ apart p v p_in v_in (λ _ e. other e)
      ]
      | inr other ↦ apart p v p_in v_in (λ e _. other e)
    ])) where
      apart : (p v : ℕ) → p < 7 → v < 8 → ((p ≡ port) → (v ≡ channel) → ⊥)
          → g p v ≡ cell (with_cell (table f) port channel x) p v d
      apart p v p_in v_in other =
          elsewhere p v p_in v_in other
          ∙ sym (cell-with_cell_other (table f) port channel p v x d other ∙ cell-table f p v d p_in v_in)
