-- The channels that may send, as a set beside a map of output ports.
use Rattle.std.specs.Prelude.{◌≡◌, ℕ, ◌<◌, if◌then◌else◌, true, List, Option, None, is_some}
use Rattle.worm_vcalloc.specs.ChannelSet.{has}
use Rattle.worm_vcalloc.specs.Table.{cell}

-- the output port that a channel may send to: that of the map, where the channel is in the set
abbrev pub ready_at : List (List (Option ℕ)) → ℕ → ℕ → ℕ → Option ℕ
ready_at outs among p v = if has among p v then cell outs p v None else None

-- each channel of the set has an output port in the map
abbrev pub HaveOuts : List (List (Option ℕ)) → ℕ → Type 0
HaveOuts outs among = (p v : ℕ) → p < 7 → v < 8 → has among p v ≡ true → is_some (cell outs p v None) ≡ true
