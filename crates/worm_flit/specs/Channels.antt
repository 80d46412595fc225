-- Which class owns which channel: class 0 owns the channels from 0, each next class those that follow
-- (Dally and Towles, chapter 13). A list of counts says how many channels each class owns.
use Rattle.std.specs.Prelude.{ℕ, suc, ◌+◌, ◌-◌, ◌*◌, ◌^◌, ◌≤◌, Bool, cond, ◌&&◌, nat_lt, nat_le, List, [], ◌∷◌, length}
use Rattle.std.specs.Prelude.{sum, take, slice_index, All}

-- one to four classes of one to eight channels each, at most eight in all
pub record AreChannels (counts : List ℕ) : Type 0 where
  pub some : 1 ≤ length counts
  pub few : length counts ≤ 4
  pub each : All (λ n. (1 ≤ n) × (n ≤ 8)) counts
  pub total : sum counts ≤ 8

-- the first channel of a class; after the last class, the number of all channels
abbrev pub first_channel : List ℕ → ℕ → ℕ
first_channel counts class = sum (take class counts)

-- the channel is one of the class's
abbrev pub owns : List ℕ → ℕ → ℕ → Bool
owns counts class channel =
    nat_le (first_channel counts class) channel
    && nat_lt channel (first_channel counts class + slice_index counts class)

-- the channels of a class, as a bit for each
abbrev pub class_bits : List ℕ → ℕ → ℕ
class_bits counts class = (2 ^ slice_index counts class - 1) * 2 ^ first_channel counts class

-- the class that owns a channel; past the last channel, the number of classes
abbrev pub owner_of : List ℕ → ℕ → ℕ
owner_of [] channel = 0
owner_of (n ∷ counts) channel = cond (nat_lt channel n) 0 (suc (owner_of counts (channel - n)))
