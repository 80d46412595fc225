-- What is read of a lane: its flits at each of its places, from the sink back (Dally and Towles, chapters 8 and 13).
use Rattle.std.specs.Prelude.{ℕ, ◌*◌, ◌≡◌, List, ◌++◌, drop, take, map, flat_map, slice_index}
use Rattle.std.specs.List.{count_by, range_with_len}
use Rattle.worm_flit.specs.declared.Lane.{Lane}
use Rattle.worm_flit.specs.declared.Flit.{Flit}
use Rattle.worm_flit.specs.Channels.{first_channel}
use Rattle.worm_flit.specs.Stamps.{bare, is_of_lane, of_lane, on_channel}
use Rattle.worm_route.specs.Places.{Place as Spot, Source as AtSource, Buffer as AtBuffer, Link as AtLink, places_of}
use Rattle.worm_route.specs.Route.{hops_of}
use Rattle.worm_theory.specs.PacketCut.{packet_held}
use Rattle.worm_region.specs.State.{NetState, router_at, sink_at, queue_of, input_of, link_of}
use Rattle.worm_core.specs.declared.view.Held.{Held}
use Rattle.worm_core.specs.declared.view.Place.{Place}
use Rattle.worm_core.specs.declared.view.Place.TheVariants.{Source, Buffer, Link}

-- the channels of a class, rising
abbrev pub channels_of : List ℕ → ℕ → List ℕ
channels_of counts class = range_with_len (first_channel counts class) (slice_index counts class)

-- these flits, all at one place
abbrev pub at_place : Place → List Flit → List Held
at_place place fs = map (λ f. record { flit = f; place = place }) fs

-- what a source has of the lane that it has yet to feed; what an input buffer, and what a channel of a link, hold of it
abbrev pub unfed_held : NetState → Lane → List Held
unfed_held s lane =
    at_place Source (of_lane lane (drop (queue_of s lane.src lane.class).fed (queue_of s lane.src lane.class).injected))

abbrev pub buffer_held : NetState → Lane → ℕ → ℕ → ℕ → List Held
buffer_held s lane x p v = at_place (Buffer x p v) (of_lane lane (input_of (router_at s x) p v).buffer)

abbrev pub link_held : NetState → Lane → ℕ → ℕ → ℕ → List Held
link_held s lane x o v = at_place (Link x o v) (of_lane lane (on_channel v (link_of s x o).flits))

-- what a place of a route holds of the lane: a buffer and a link channel by channel of the lane's class, rising, front
-- first in each
abbrev pub held_at : NetState → Lane → Spot → List Held
held_at s lane AtSource = unfed_held s lane
held_at s lane (AtBuffer x p) = flat_map (buffer_held s lane x p) (channels_of s.channels lane.class)
held_at s lane (AtLink x o) = flat_map (link_held s lane x o) (channels_of s.channels lane.class)

-- the lane's flits under way, with their places, from the sink back
abbrev pub underway_view : NetState → Lane → List Held
underway_view s lane = flat_map (held_at s lane) (places_of s.mesh lane.src lane.dst)

-- how many flits of the lane are in its destination's sink
abbrev pub delivered_view : NetState → Lane → ℕ
delivered_view s lane = count_by (is_of_lane lane) (sink_at s lane.dst).delivered

-- the places that a route to dst has past node x: all those of the lanes from x but x's injection buffer and source
abbrev pub places_past : List ℕ → ℕ → ℕ → List Spot
places_past mesh x dst = take (2 * hops_of mesh x dst) (places_of mesh x dst)

-- the flits in the sink of the lane's destination, followed by these under way
abbrev pub joined_view : NetState → Lane → List Held → List Flit
joined_view s lane underway = (sink_at s lane.dst).delivered ++ map (λ (h : Held). h.flit) underway

-- where the lane's class owns one channel: of the lane, what was delivered and then what is under way is what was
-- injected, channel numbers aside
abbrev pub IsLaneCut : NetState → Lane → List Held → Type 0
IsLaneCut s lane underway = slice_index s.channels lane.class ≡ 1 →
    map bare (of_lane lane (joined_view s lane underway))
    ≡ map bare (of_lane lane (queue_of s lane.src lane.class).injected)

-- the same of each packet of the lane, for any class
abbrev pub ArePacketsCut : NetState → Lane → List Held → Type 0
ArePacketsCut s lane underway = (k : ℕ) →
    packet_held lane k (joined_view s lane underway) ≡ packet_held lane k (queue_of s lane.src lane.class).injected
