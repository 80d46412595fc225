-- At a place that is there, each of the theory's functions is what the node's lists have.
use Rattle.std.proofs.Common.{◌≡◌, ℕ, ◌<◌, ap}
use Rattle.worm_records.specs.declared.OutRecord.{OutRecord}
use Rattle.worm_router.specs.Router.{ChannelState, width, input_at, output_at}
use Rattle.worm_region.specs.State.{NetState, IsNetPlace, network_of, router_at}
use Rattle.worm_region.proofs.NodeWritten.{input_of-there, output_of-there}

pub buffer_there : (s : NetState) (x p v : ℕ) → IsNetPlace s x p v
    → (network_of s).buffer x p v ≡ (input_at (router_at s x) p v).buffer
unfolding network_of
buffer_there s x p v place = ap (λ (c : ChannelState). c.buffer)
    (input_of-there (router_at s x) p v place.place.channel_in)

pub record_there : (s : NetState) (x p v : ℕ) → IsNetPlace s x p v
    → (network_of s).in_record x p v ≡ (input_at (router_at s x) p v).state
unfolding network_of
record_there s x p v place = ap (λ (c : ChannelState). c.state)
    (input_of-there (router_at s x) p v place.place.channel_in)

pub owed_there : (s : NetState) (x p v : ℕ) → IsNetPlace s x p v
    → (network_of s).owed x p v ≡ (input_at (router_at s x) p v).owed
unfolding network_of
owed_there s x p v place = ap (λ (c : ChannelState). c.owed) (input_of-there (router_at s x) p v place.place.channel_in)

pub holder_there : (s : NetState) (x o c : ℕ) → c < width (router_at s x)
    → (network_of s).holder x o c ≡ (output_at (router_at s x) o c).holder
unfolding network_of
holder_there s x o c within = ap (λ (u : OutRecord). u.holder) (output_of-there (router_at s x) o c within)

pub spent_there : (s : NetState) (x o c : ℕ) → c < width (router_at s x)
    → (network_of s).credits x o c ≡ (output_at (router_at s x) o c).credits
unfolding network_of
spent_there s x o c within = ap (λ (u : OutRecord). u.credits) (output_of-there (router_at s x) o c within)
