-- Tables filled cell by cell and row by row are the table of what they were filled with.
use Rattle.std.proofs.Common.{◌≡◌, ℕ, ◌+◌, ◌<◌, ◌≤◌, ◌&&◌, Bool, true, false, nat_le, nat_lt, if◌then◌else◌, inl, inr}
use Rattle.std.proofs.Common.{List, [], slice_index_or, refl, arith, ap, sym, ◌∙◌, subst}
use Rattle.std.proofs.lemmas.Bool.{cases_lt}
use Rattle.std.proofs.lemmas.List.{get_or_past}
use Rattle.worm_vcalloc.specs.Table.{cell, with_cell, table}
use Rattle.worm_vcalloc.proofs.TableRows.{same_tables, cell-table, IsTable-table, table-with_cell}
use Rattle.worm_router.specs.Router.{RouterState, IsPlace, terminal, width}
use Rattle.worm_router.specs.Tables.{PutsRows}
use Rattle.worm_router.specs.Allocation.{within}

-- the rows of all ports make the table of the router's ports and channels
pub rows_are : {X : Type 0} (r : RouterState) (d : X) (f : ℕ → ℕ → X) (n : ℕ) (t : List (List X))
    → PutsRows d f (width r) n t → n ≡ terminal r + 1 → t ≡ table (within r d f)
rows_are r d f n t puts ports =
    same_tables d t (table (within r d f)) puts.shape (IsTable-table (within r d f)) (λ p v p_in v_in.
    cell_is p v ∙ sym (cell-table (within r d f) p v d p_in v_in))
  where
    by_test : (p v : ℕ) (a b : Bool) → nat_le p (terminal r) ≡ a → nat_lt v (width r) ≡ b
        → cell t p v d ≡ (if a && b then f p v else d)
    by_test p v true true e g = puts.here p v (let q : p ≤ terminal r = grind arith in omega arith) (grind arith)
    by_test p v true false e g = puts.elsewhere p v (λ a b. let q : width r ≤ v = grind arith in absurd (omega arith))
    by_test p v false b e g = puts.elsewhere p v (λ a b. let q : terminal r < p = grind arith in absurd (omega arith))

    cell_is : (p v : ℕ) → cell t p v d ≡ within r d f p v
    cell_is p v = by_test p v (nat_le p (terminal r)) (nat_lt v (width r)) refl refl

-- what holds of nothing, and of what stands at each place of the router, holds of each cell
pub cell_has : {X : Type 0} (P : X → Type 0) (r : RouterState) (d : X) (f : ℕ → ℕ → X) (p v : ℕ) → P d
    → (IsPlace r p v → P (f p v)) → P (cell (table (within r d f)) p v d)
cell_has {X = X} P r d f p v none some = elim (cases_lt p 7) [
  | inl p_in ↦ elim (cases_lt v 8) [
    | inl v_in ↦ subst P (sym (cell-table (within r d f) p v d p_in v_in))
        (by_test (nat_le p (terminal r)) (nat_lt v (width r)) refl refl)
    | inr past ↦ subst P (sym (get_or_past (slice_index_or (table (within r d f)) p []) v d
        (let e = (IsTable-table (within r d f)).columns p p_in in omega arith))) none
  ]
  | inr past ↦ subst P (sym (ap (λ (row : List X). slice_index_or row v d)
      (get_or_past (table (within r d f)) p [] (let e = (IsTable-table (within r d f)).rows in omega arith)))) none
] where
  by_test : (a b : Bool) → nat_le p (terminal r) ≡ a → nat_lt v (width r) ≡ b
      → P (if nat_le p (terminal r) && nat_lt v (width r) then f p v else d)
  by_test true true e g = subst (λ k. P (if k then f p v else d)) (sym (ap (λ k. k && nat_lt v (width r)) e ∙ g))
      (some (record { port_in = grind arith; channel_in = grind arith }))
  by_test true false e g = subst (λ k. P (if k then f p v else d)) (sym (ap (λ k. k && nat_lt v (width r)) e ∙ g)) none
  by_test false b e g = subst (λ k. P (if k then f p v else d)) (sym (ap (λ k. k && nat_lt v (width r)) e)) none

-- what stands at a place
pub cell_is : {X : Type 0} (r : RouterState) (d : X) (f : ℕ → ℕ → X) (p v : ℕ) → terminal r ≤ 6 → width r ≤ 8
    → IsPlace r p v → cell (table (within r d f)) p v d ≡ f p v
cell_is r d f p v few_ports few_channels place =
    let port_in : nat_le p (terminal r) ≡ true = let e = place.port_in in grind arith in
    let channel_in : nat_lt v (width r) ≡ true = let e = place.channel_in in grind arith in
    let p_in = place.port_in in
    let v_in = place.channel_in in
    cell-table (within r d f) p v d (omega arith) (omega arith)
    ∙ ap (λ b. if b && nat_lt v (width r) then f p v else d) port_in ∙ ap (λ b. if b then f p v else d) channel_in

-- what two functions say of a port and channel is one, where they agree on the places of the router
within_as : {X : Type 0} (r : RouterState) (d : X) (f g : ℕ → ℕ → X) (p v : ℕ) → (IsPlace r p v → g p v ≡ f p v)
    → within r d g p v ≡ within r d f p v
within_as r d f g p v same = by_test (nat_le p (terminal r)) (nat_lt v (width r)) refl refl where
  by_test : (a b : Bool) → nat_le p (terminal r) ≡ a → nat_lt v (width r) ≡ b
      → (if a && b then g p v else d) ≡ (if a && b then f p v else d)
  by_test true true e h = same (record { port_in = grind arith; channel_in = grind arith })
  by_test true false e h = refl
  by_test false b e h = refl

pub table_kept : {X : Type 0} (r : RouterState) (d : X) (f g : ℕ → ℕ → X)
    → ((p v : ℕ) → IsPlace r p v → g p v ≡ f p v) → table (within r d g) ≡ table (within r d f)
table_kept r d f g same =
    same_tables d (table (within r d g)) (table (within r d f)) (IsTable-table (within r d g))
    (IsTable-table (within r d f)) (λ p v p_in v_in.
    cell-table (within r d g) p v d p_in v_in ∙ within_as r d f g p v (same p v)
    ∙ sym (cell-table (within r d f) p v d p_in v_in))

-- a table that is written at one place is that of a function that says so there, and is as it was elsewhere
pub table_put : {X : Type 0} (r : RouterState) (d : X) (f g : ℕ → ℕ → X) (port vc : ℕ) (x : X) (t new : List (List X))
    → terminal r ≤ 6 → width r ≤ 8 → IsPlace r port vc → t ≡ table (within r d f) → new ≡ with_cell t port vc x
    → g port vc ≡ x
    → ((p v : ℕ) → IsPlace r p v → ((p ≡ port) → (v ≡ vc) → ⊥) → g p v ≡ f p v)
    → new ≡ table (within r d g)
table_put r d f g port vc x t new few_ports few_channels place is put here elsewhere =
    let port_in = place.port_in in
    let vc_in = place.channel_in in
    let p_in : port < 7 = omega arith in
    let v_in : vc < 8 = omega arith in
    put ∙ ap (λ s. with_cell s port vc x) is
    ∙ sym (table-with_cell (within r d f) (within r d g) port vc x d p_in v_in
    (sym (cell-table (within r d g) port vc d p_in v_in) ∙ cell_is r d g port vc few_ports few_channels place ∙ here)
    (λ p v _ _ apart. within_as r d f g p v (λ there. elsewhere p v there apart)))
