-- Sets of the channels of a router, seen as one number.
use Rattle.std.specs.Prelude.{◌≡◌, ℕ, ◌+◌, ◌*◌, ◌<◌, ◌^◌, ◌==◌, Bool, false, IsTrue}
use Rattle.std.specs.Int.{bit_at}
use Rattle.worm_vcalloc.specs.Arbiter.{IsFirstRequester, line_requests}

-- whether a channel of a port is in the set: a bit for each, eight to a port
abbrev pub has : ℕ → ℕ → ℕ → Bool
has set port channel = bit_at set (8 * port + channel) == 1

-- the set has changed at one channel alone, which is now in it or not
pub record IsPut (old new port channel : ℕ) (within : Bool) : Type 0 where
  pub here : has new port channel ≡ within
  pub elsewhere : (p c : ℕ) → p < 7 → c < 8 → ((p ≡ port) → (c ≡ channel) → ⊥) → has new p c ≡ has old p c
  -- nothing but channels is in it
  pub small : new < 2 ^ 56

-- the first channel of the set, by rising port and then channel, has been taken out
pub record IsFirst (old new port channel : ℕ) : Type 0 where
  pub port_in : port < 7
  pub channel_in : channel < 8
  pub was_in : IsTrue (has old port channel)
  pub none_before : (p c : ℕ) → c < 8 → 8 * p + c < 8 * port + channel → has old p c ≡ false
  pub taken : IsPut old new port channel false
  -- the sets of a loop that takes channels out are ever smaller numbers
  pub fewer : new < old

-- all channels of the first port that has any in the set have been taken out
pub record IsFirstPort (old new port : ℕ) : Type 0 where
  pub port_in : port < 7
  pub some_in : (c : ℕ) × (c < 8) × IsTrue (has old port c)
  pub none_before : (p c : ℕ) → p < port → c < 8 → has old p c ≡ false
  pub taken : (c : ℕ) → c < 8 → has new port c ≡ false
  pub elsewhere : (p c : ℕ) → p < 7 → c < 8 → ((p ≡ port) → ⊥) → has new p c ≡ has old p c
  -- the sets of a loop that takes ports out are ever smaller numbers
  pub fewer : new < old

-- the channel is the lowest of its port in the set
pub record IsLowest (set port channel : ℕ) : Type 0 where
  pub channel_in : channel < 8
  pub is_in : IsTrue (has set port channel)
  pub none_below : (c : ℕ) → c < channel → has set port c ≡ false

-- the channel is in the set, and of the others none comes before it in the order that starts at a place and goes
-- round, where a channel stands at the place `8 * port + channel`
pub record IsFirstFrom (set place port channel : ℕ) : Type 0 where
  pub port_in : port < 7
  pub channel_in : channel < 8
  pub first : IsFirstRequester (record { width = 56; pointer = place }) (line_requests set) (8 * port + channel)
