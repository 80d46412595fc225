-- Sets of the numbers below eight, seen as one number.
use Rattle.std.specs.Prelude.{◌≡◌, ℕ, ◌<◌, ◌==◌, Bool, true, false}
use Rattle.std.specs.Int.{bit_at}

-- whether a number is in the set: a bit for each
abbrev pub has : ℕ → ℕ → Bool
has set n = bit_at set n == 1

-- the set has changed at one number alone, which is now in it or not
pub record IsPut (old new n : ℕ) (within : Bool) : Type 0 where
  pub here : has new n ≡ within
  pub elsewhere : (k : ℕ) → k < 8 → (k ≡ n → ⊥) → has new k ≡ has old k

-- the least number of the set has been taken out
pub record IsFirst (old new n : ℕ) : Type 0 where
  pub in_range : n < 8
  pub was_in : has old n ≡ true
  pub none_before : (k : ℕ) → k < n → has old k ≡ false
  pub taken : IsPut old new n false
  -- the sets of a loop that takes numbers out are ever smaller numbers
  pub fewer : new < old
