-- Requests filed by the output port that they ask for and by the channels of it that will do.
use Rattle.std.specs.Prelude.{◌≡◌, ℕ, ◌<◌, ◌&&◌, ◌||◌, Bool, true, false, List, Option, Some, None, slice_index_or}
use Rattle.std.specs.Prelude.{if◌then◌else◌, nat_lt}
use Rattle.worm_flit.specs.SmallSet as small
use Rattle.worm_vcalloc.specs.declared.asked.Asked.{Asked}
use Rattle.worm_vcalloc.specs.declared.request.VcRequest.{VcRequest}
use Rattle.worm_vcalloc.specs.ChannelSet.{has}
use Rattle.worm_vcalloc.specs.Table.{cell}
use Rattle.worm_vcalloc.specs.VcRequest.{is_for, allows}

-- whether it is for one of so many output ports
abbrev pub is_below : Option VcRequest → ℕ → Bool
is_below None ports = false
is_below (Some r) ports = nat_lt r.out ports

-- what an input channel asks of a router, which hears only its own channels and only of its own output ports
abbrev pub heard : List (List (Option VcRequest)) → ℕ → ℕ → ℕ → ℕ → Option VcRequest
heard requests ports vcs p v =
    if nat_lt p ports && nat_lt v vcs && is_below (cell requests p v None) ports
    then cell requests p v None
    else None

-- whether it is for an output port with so many channels, and where that has one alone, allows that
abbrev pub is_met_by : Option VcRequest → ℕ → ℕ → Bool
is_met_by r vcs out = is_for r out && (nat_lt 1 vcs || allows r 0)

-- the files of a table of requests, as a router hears them
pub record IsFiled (requests : List (List (Option VcRequest))) (ports vcs : ℕ) (files : Asked) : Type 0 where
  -- for each output port the input channels that ask for it; where it has one channel alone, those that allow that
  pub by_port : (out p v : ℕ) → out < 7 → p < 7 → v < 8
      → has (slice_index_or files.by_port out 0) p v ≡ is_met_by (heard requests ports vcs p v) vcs out
  -- where a port has more, for each channel the input channels that allow it
  pub by_channel : 1 < vcs → (channel p v : ℕ) → channel < 8 → p < 7 → v < 8
      → has (slice_index_or files.by_channel channel 0) p v ≡ allows (heard requests ports vcs p v) channel
  -- the output ports that some input channel asks for are in the set, and none but the router's
  pub asked : (out p v : ℕ) → out < 7 → p < 7 → v < 8 → is_for (heard requests ports vcs p v) out ≡ true
      → small.has files.ports out ≡ true
  pub within : (out : ℕ) → out < 8 → small.has files.ports out ≡ true → out < ports

-- of all sets, those of the channels that are allowed have got this input channel
pub record AreAllowed (old new : List ℕ) (port vc allowed : ℕ) : Type 0 where
  pub here : (channel : ℕ) → channel < 8 → has (slice_index_or new channel 0) port vc
      ≡ (has (slice_index_or old channel 0) port vc || small.has allowed channel)
  pub elsewhere : (channel p v : ℕ) → channel < 8 → p < 7 → v < 8 → ((p ≡ port) → (v ≡ vc) → ⊥)
      → has (slice_index_or new channel 0) p v ≡ has (slice_index_or old channel 0) p v
