-- What the last line of a report says of its other lines.
use Rattle.std.specs.Prelude.{◌≡◌, ℕ, ◌+◌, ◌==◌, Bool, List, [], ◌∷◌, ◌++◌, length, take, codes, decimal}
use Rattle.std.specs.Str.{bytes_eq}
use Rattle.std.specs.List.{count_by, join_with_byte, slice_split}
use Rattle.worm_report.specs.Rows.{newline, space}

-- what stands between the line feeds of a text
abbrev pub lines_of : List ℕ → List (List ℕ)
lines_of text = slice_split (λ b. b == newline) text

abbrev pub begins_with : List ℕ → List ℕ → Bool
begins_with word line = bytes_eq (take (length word) line) word

-- how many lines of a text begin with this word
abbrev pub lines_with : List ℕ → List ℕ → ℕ
lines_with word text = count_by (begins_with word) (lines_of text)

-- the line of the sums, where so many flits were delivered and so many are under way
abbrev pub sums_line : ℕ → ℕ → List ℕ
sums_line delivered underway = join_with_byte space
    (codes "total" ∷ codes "injected" ∷ decimal (delivered + underway) ∷ codes "delivered" ∷ decimal delivered
    ∷ codes "underway" ∷ decimal underway ∷ [])

-- The text's last line says how many of its lines begin with `delivered`, how many with `underway`, and as injected
-- both together.
pub record AddsUp (text : List ℕ) : Type 0 where
  pub before : List ℕ
  pub ends : text ≡ before ++ newline
      ∷ (sums_line (lines_with (codes "delivered") text) (lines_with (codes "underway") text) ++ newline ∷ [])
