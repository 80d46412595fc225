-- Lemmas on tables.
use Rattle.std.proofs.Common.{◌≡◌, ℕ, ◌<◌, List, [], sym, ap, ◌∙◌, subst, arith, inl, inr, slice_index_or, slice_set}
use Rattle.std.proofs.Common.{length, replicate, get_or-set_same, get_or-set_other}
use Rattle.std.proofs.lemmas.Bool.{cases_eq, cases_lt}
use Rattle.std.proofs.lemmas.List.{length-set, set_past, set-get_or, length-replicate, get_or-replicate}
use Rattle.std.proofs.lemmas.List.{get_or_past}
use Rattle.worm_vcalloc.specs.Table.{cell, with_cell, IsTable}

-- a cell that was written, where it lies in the table
pub cell-with_cell_here : {X : Type 0} (table : List (List X)) (i j : ℕ) (x d : X) → i < length table
    → j < length (slice_index_or table i []) → cell (with_cell table i j x) i j d ≡ x
cell-with_cell_here table i j x d high wide =
    ap (λ r. slice_index_or r j d) (get_or-set_same table i (slice_set (slice_index_or table i []) j x) [] high)
    ∙ get_or-set_same (slice_index_or table i []) j x d wide

pub cell-with_cell_same : {X : Type 0} (table : List (List X)) (i j : ℕ) (x d : X) → IsTable table → i < 7 → j < 8
    → cell (with_cell table i j x) i j d ≡ x
cell-with_cell_same table i j x d t li lj =
    cell-with_cell_here table i j x d (omega (arith, t.rows)) (omega (arith, t.columns i li))

-- a cell that is written as it was
pub with_cell_same : {X : Type 0} (table : List (List X)) (i j : ℕ) (d : X)
    → with_cell table i j (cell table i j d) ≡ table
with_cell_same table i j d = ap (slice_set table i) (set-get_or (slice_index_or table i []) j d) ∙ set-get_or table i []

-- any other cell
pub cell-with_cell_other : {X : Type 0} (table : List (List X)) (i j p v : ℕ) (x d : X) → ((p ≡ i) → (v ≡ j) → ⊥)
    → cell (with_cell table i j x) p v d ≡ cell table p v d
cell-with_cell_other table i j p v x d apart =
    elim (cases_eq p i) [
      | inl same ↦
          elim (cases_lt i (length table)) [
            | inl high ↦
                ap (λ k. cell (with_cell table i j x) k v d) same
                ∙ ap (λ r. slice_index_or r v d) (get_or-set_same table i
                (slice_set (slice_index_or table i []) j x) [] high)
                ∙ get_or-set_other (slice_index_or table i []) j v x d (apart same)
                ∙ ap (λ k. cell table k v d) (sym same)
            | inr past ↦ ap (λ t. cell t p v d) (set_past table i (slice_set (slice_index_or table i []) j x) past)
          ]
      | inr other ↦ ap (λ r. slice_index_or r v d)
          (get_or-set_other table i p (slice_set (slice_index_or table i []) j x) [] other)
    ]

-- a write keeps the shape
pub IsTable-with_cell : {X : Type 0} (table : List (List X)) (i j : ℕ) (x : X) → IsTable table
    → IsTable (with_cell table i j x)
IsTable-with_cell table i j x t = record {
  rows = length-set table i (slice_set (slice_index_or table i []) j x) ∙ t.rows;
  columns = λ k lk. elim (cases_eq k i) [
    | inl same ↦
        let high : i < length table = omega (arith, t.rows) in
        ap (λ n. length (slice_index_or (with_cell table i j x) n [])) same
        ∙ ap length (get_or-set_same table i (slice_set (slice_index_or table i []) j x) [] high)
        ∙ length-set (slice_index_or table i []) j x
        ∙ t.columns i (omega arith)
    | inr other ↦ ap length (get_or-set_other table i k (slice_set (slice_index_or table i []) j x) [] other)
        ∙ t.columns k lk
  ];
}

-- what holds of a new cell and of an old one holds of the cell after the write, whether or not it lies in the table
pub cell-with_cell_keeps : {X : Type 0} (P : X → Type 0) (table : List (List X)) (i j p v : ℕ) (x d : X) → P x
    → P (cell table p v d) → P (cell (with_cell table i j x) p v d)
cell-with_cell_keeps P table i j p v x d new old =
    elim (cases_eq p i) [
      | inl pi ↦ elim (cases_eq v j) [
        | inl vj ↦ elim (cases_lt i (length table)) [
          | inl high ↦ elim (cases_lt j (length (slice_index_or table i []))) [
            | inl wide ↦
                let e = cell-with_cell_here table i j x d high wide in
                subst P (sym (ap (λ k. cell (with_cell table i j x) k v d) pi
                ∙ ap (λ k. cell (with_cell table i j x) i k d) vj ∙ e)) new
            | inr past ↦
                let e : with_cell table i j x ≡ table =
                ap (slice_set table i) (set_past (slice_index_or table i []) j x past) ∙ set-get_or table i [] in
                subst (λ t. P (cell t p v d)) (sym e) old
          ]
          | inr past ↦ subst (λ t. P (cell t p v d))
              (sym (set_past table i (slice_set (slice_index_or table i []) j x) past)) old
        ]
        | inr other ↦ subst P (sym (cell-with_cell_other table i j p v x d (λ _ e. other e))) old
      ]
      | inr other ↦ subst P (sym (cell-with_cell_other table i j p v x d (λ e _. other e))) old
    ]

get_or-replicate_same : {X : Type 0} (n i : ℕ) (x : X) → slice_index_or (replicate n x) i x ≡ x
get_or-replicate_same n i x = elim (cases_lt i n) [
  | inl within ↦ get_or-replicate n i x x within
  | inr past ↦ get_or_past (replicate n x) i x (let e = length-replicate n x in omega arith)
]

-- no cell of an empty table has anything
pub cell-replicate : {X : Type 0} (n m i j : ℕ) (x : X) → cell (replicate n (replicate m x)) i j x ≡ x
cell-replicate n m i j x = elim (cases_lt i n) [
  | inl within ↦ ap (λ r. slice_index_or r j x) (get_or-replicate n i (replicate m x) [] within)
      ∙ get_or-replicate_same m j x
  | inr past ↦ ap (λ r. slice_index_or r j x)
      (get_or_past (replicate n (replicate m x)) i [] (let e = length-replicate n (replicate m x) in omega arith))
]

pub IsTable-replicate : {X : Type 0} (x : X) → IsTable (replicate 7 (replicate 8 x))
IsTable-replicate x = record {
  rows = length-replicate 7 (replicate 8 x);
  columns = λ i l. ap length (get_or-replicate 7 i (replicate 8 x) [] l) ∙ length-replicate 8 x;
}
