-- What the places of a lane hold of one packet, each place read as the channels of the packet's class there, joined in
-- rising order; and which packets are open past a place (Dally and Towles, chapters 13 and 16).
use Rattle.std.specs.Prelude.{ℕ, ◌≡◌, ◌==◌, ◌<◌, cond, List, [], ◌∷◌, ◌++◌, length, flat_map}
use Rattle.worm_flit.specs.declared.Lane.{Lane}
use Rattle.worm_flit.specs.declared.Flit.{Flit}
use Rattle.worm_route.specs.Places.{Place, Source, Buffer, Link, places_of}
use Rattle.worm_theory.specs.Shape.{Shape, HasLane}
use Rattle.worm_theory.specs.Network.{Network}
use Rattle.worm_theory.specs.PacketCut.{packet_held}
use Rattle.worm_theory.specs.ChannelCut.{class_store, class_line}
use Rattle.worm_theory.specs.OpenPast.{NoneCloses, OneOpenAt}

-- what a place holds of the packet, channel numbers aside. At the terminal there is no link, but the sink.
abbrev pub packet_at : Shape → Network → Lane → ℕ → Place → List Flit
packet_at s net lane k Source = packet_held lane k (net.unfed lane.src lane.class)
packet_at s net lane k (Buffer x p) = class_store s net lane k x p
packet_at s net lane k (Link x o) = cond (o == s.terminal) [] (class_line s net lane k x o)

-- the packet's delivered flits, then those at each of these places
abbrev pub packet_along : Shape → Network → Lane → ℕ → List Place → List Flit
packet_along s net lane k places = packet_held lane k (net.out lane.dst s.terminal)
    ++ flat_map (packet_at s net lane k) places

-- the packet's delivered flits, then those at each place of its lane from the sink back
abbrev pub packet_items : List ℕ → Shape → Network → Lane → ℕ → List Flit
packet_items ks s net lane k = packet_along s net lane k (places_of ks lane.src lane.dst)

-- The packet is open past a place before which its lane has these places, nearer the sink: some flit of it is delivered
-- or at one of them, and its closing flit is not.
pub record IsOpenAlong (s : Shape) (net : Network) (lane : Lane) (k : ℕ) (nearer : List Place) : Type 0 where
  pub some : 0 < length (packet_along s net lane k nearer)
  pub unclosed : NoneCloses (packet_along s net lane k nearer)

-- The packet cut by places, of each packet of any class: its flits delivered, followed by those at each place from the
-- sink back, are those injected of it.
abbrev pub PacketsAreCut : List ℕ → Shape → Network → Type 0
PacketsAreCut ks s net = (lane : Lane) (k : ℕ) → HasLane s lane
    → packet_items ks s net lane k ≡ packet_held lane k (net.injected lane.src lane.class)

-- Where a packet is open past a buffer of its route, exactly one input channel of that node is active for it, it is at
-- the buffer's port, what left it last is the last flit of the packet past it, and what comes next is the packet's
-- next.
abbrev pub OpenPacketsAreActive : List ℕ → Shape → Network → Type 0
OpenPacketsAreActive ks s net = (lane : Lane) (k : ℕ) → HasLane s lane →
    (nearer farther : List Place) (x p : ℕ) → places_of ks lane.src lane.dst ≡ nearer ++ Buffer x p ∷ farther →
    IsOpenAlong s net lane k nearer → OneOpenAt s net lane k x p
