-- The packet cut: what was delivered of a packet of any class, followed by what is under way, is what was injected.
use Rattle.std.specs.Prelude.{◌≡◌, ℕ, zero, suc, Bool, ◌==◌, ◌&&◌, List, [], ◌∷◌, ◌++◌, map, length, ◌<◌, ◌≤◌, ◌⊎◌}
use Rattle.std.specs.List.{filter}
use Rattle.worm_flit.specs.declared.Lane.{Lane}
use Rattle.worm_flit.specs.declared.Flit.{Flit}
use Rattle.worm_flit.specs.Stamps.{bare, is_of_lane}
use Rattle.worm_flit.specs.Packets.{packet_flits, mark}
use Rattle.worm_theory.specs.Worm.{Within, worm_after}
use Rattle.worm_theory.specs.Shape.{Shape, HasLane, Enters}
use Rattle.worm_theory.specs.Network.{Network}
use Rattle.worm_theory.specs.Steps.{next_number}
use Rattle.worm_theory.specs.Cut.{underway_from, past_from}

-- the flit's stamp names packet k of the lane
abbrev pub is_of_packet : Lane → ℕ → Flit → Bool
is_of_packet lane k f = is_of_lane lane f && (k == f.packet)

-- the flits of the packet, channel numbers aside
abbrev pub packet_held : Lane → ℕ → List Flit → List Flit
packet_held lane k fs = map bare (filter (is_of_packet lane k) fs)

-- these are the flits of the lane's packet of number k, channel numbers aside: those of 1 to 32 words, or a mark
abbrev pub IsWhole : Lane → ℕ → List Flit → Type 0
IsWhole lane k fs = ((words : List ℕ) × (0 < length words) × (length words ≤ 32)
    × (fs ≡ map bare (packet_flits lane k words))) ⊎ (fs ≡ bare (mark lane k) ∷ [])

-- lists joined in rising channel
abbrev pub joined : ℕ → (ℕ → List Flit) → List Flit
joined zero lists = []
joined (suc n) lists = joined n lists ++ lists n

-- what the buffers at a port, and a link or a sink, hold of the packet
abbrev pub packet_store : Shape → Network → Lane → ℕ → ℕ → ℕ → List Flit
packet_store s net lane k x p = joined s.vcs (λ v. packet_held lane k (net.buffer x p v))

abbrev pub packet_line : Network → Lane → ℕ → ℕ → ℕ → List Flit
packet_line net lane k x o = packet_held lane k (net.out x o)

-- The packet cut, a port read as all its channels joined.
abbrev pub PacketsCut : Shape → Network → Type 0
PacketsCut s net = (lane : Lane) (k : ℕ) → HasLane s lane →
    packet_held lane k (net.out lane.dst s.terminal) ++
    (underway_from s (packet_store s net lane k) (packet_line net lane k) lane.dst
    (s.hops lane.src lane.dst) lane.src s.terminal ++ packet_held lane k (net.unfed lane.src lane.class)) ≡
    packet_held lane k (net.injected lane.src lane.class)

-- no two input channels of a node are within one packet
abbrev pub OneWithin : Network → Type 0
OneWithin net = (x p v p2 v2 : ℕ) (g g2 : Flit) → worm_after (net.last_out x p v) ≡ Within g
    → worm_after (net.last_out x p2 v2) ≡ Within g2 → g.lane ≡ g2.lane → g.packet ≡ g2.packet → (p ≡ p2) × (v ≡ v2)

-- where a channel is within a packet, something of it is past that node
abbrev pub WithinPast : Shape → Network → Type 0
WithinPast s net = (lane : Lane) (k : ℕ) → HasLane s lane → (x p v : ℕ) (g : Flit) → Enters s lane x p
    → worm_after (net.last_out x p v) ≡ Within g → lane ≡ g.lane → k ≡ g.packet →
    0 < length (past_from s (packet_store s net lane k) (packet_line net lane k) lane.dst (s.hops x lane.dst) x)

-- What each step keeps of packets.
pub record PacketsHold (s : Shape) (net : Network) : Type 0 where
  pub cut : PacketsCut s net
  pub one : OneWithin net
  pub within_past : WithinPast s net

-- each packet that a lane's source accepted is there whole, and what is numbered past them is not there
abbrev pub PacketsWhole : Network → Type 0
PacketsWhole net = (lane : Lane) (k : ℕ)
    → (k < next_number net lane → IsWhole lane k (packet_held lane k (net.injected lane.src lane.class)))
    × (next_number net lane ≤ k → packet_held lane k (net.injected lane.src lane.class) ≡ [])
