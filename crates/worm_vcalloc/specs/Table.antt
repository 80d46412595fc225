-- Tables: lists of rows.
use Rattle.std.specs.Prelude.{◌≡◌, ℕ, ◌<◌, if◌then◌else◌, List, length, map, [], Option, Some, None, slice_index_or}
use Rattle.std.specs.Prelude.{slice_set}
use Rattle.std.specs.List.{range_with_len}
use Rattle.worm_vcalloc.specs.ChannelSet.{has}

-- what stands at row i, column j of a table
abbrev pub cell : {X : Type 0} → List (List X) → ℕ → ℕ → X → X
cell table i j d = slice_index_or (slice_index_or table i []) j d

-- the table with x at row i, column j
abbrev pub with_cell : {X : Type 0} → List (List X) → ℕ → ℕ → X → List (List X)
with_cell table i j x = slice_set table i (slice_set (slice_index_or table i []) j x)

-- a table has a row for each of seven ports and a cell for each of eight channels
pub record IsTable {X : Type 0} (table : List (List X)) : Type 0 where
  pub rows : length table ≡ 7
  pub columns : (i : ℕ) → i < 7 → length (slice_index_or table i []) ≡ 8

-- the table of what f says of each port and channel
unfoldable pub table : {X : Type 0} → (ℕ → ℕ → X) → List (List X)
table f = map (λ port. map (f port) (range_with_len 0 8)) (range_with_len 0 7)

-- what plain rows say of a channel, of which only those in a set have something
abbrev pub keyed_cell : {X : Type 0} → X → ℕ → List (List X) → ℕ → ℕ → Option X
keyed_cell blank keys rows port channel = if has keys port channel then Some (cell rows port channel blank) else None

-- plain rows beside the set of the channels that have something, as one table
abbrev pub keyed : {X : Type 0} → X → ℕ → List (List X) → List (List (Option X))
keyed blank keys rows = table (keyed_cell blank keys rows)
