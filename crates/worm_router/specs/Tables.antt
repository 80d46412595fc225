-- Tables of seven ports by eight channels, filled row by row.
use Rattle.std.specs.Prelude.{◌≡◌, ℕ, ◌<◌, List}
use Rattle.worm_vcalloc.specs.Table.{cell, IsTable}

-- the first n cells of one row are those of f, and all others are as they were
pub record PutsRow {X : Type 0} (d : X) (f : ℕ → X) (n row : ℕ) (old new : List (List X)) : Type 0 where
  pub shape : IsTable new
  pub here : (v : ℕ) → v < n → cell new row v d ≡ f v
  pub elsewhere : (p v : ℕ) → ((p ≡ row) → (v < n) → ⊥) → cell new p v d ≡ cell old p v d

-- the first w cells of the first n rows are those of f, and all others are d
pub record PutsRows {X : Type 0} (d : X) (f : ℕ → ℕ → X) (w n : ℕ) (t : List (List X)) : Type 0 where
  pub shape : IsTable t
  pub here : (p v : ℕ) → p < n → v < w → cell t p v d ≡ f p v
  pub elsewhere : (p v : ℕ) → ((p < n) → (v < w) → ⊥) → cell t p v d ≡ d
