-- Lists whose first elements are given by a function.
use Rattle.std.specs.Prelude.{ℕ, List, ◌++◌, map, drop}
use Rattle.std.specs.List.{range_with_len}

-- the list whose first n elements are f 0, f 1, .., and the others those of xs
unfoldable pub with_front : {X : Type 0} → ℕ → (ℕ → X) → List X → List X
with_front n f xs = map f (range_with_len 0 n) ++ drop n xs
