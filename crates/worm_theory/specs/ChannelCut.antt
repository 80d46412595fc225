-- A packet of any class, each place read as the channels of its class there, joined in rising order.
use Rattle.std.specs.Prelude.{◌≡◌, ℕ, cond, ◌==◌, List, [], ◌++◌}
use Rattle.worm_flit.specs.declared.Lane.{Lane}
use Rattle.worm_flit.specs.declared.Flit.{Flit}
use Rattle.worm_flit.specs.Stamps.{on_channel}
use Rattle.worm_theory.specs.Shape.{Shape, HasLane}
use Rattle.worm_theory.specs.Network.{Network}
use Rattle.worm_theory.specs.Cut.{underway_from}
use Rattle.worm_theory.specs.PacketCut.{packet_held, joined}

-- lists joined over the channels of a class, in rising order
abbrev pub class_joined : Shape → ℕ → (ℕ → List Flit) → List Flit
class_joined s class lists = joined s.vcs (λ v. cond (s.owner v == class) (lists v) [])

-- what the buffers at a port hold of the packet, its class's channels joined in rising order
abbrev pub class_store : Shape → Network → Lane → ℕ → ℕ → ℕ → List Flit
class_store s net lane k x p = class_joined s lane.class (λ v. packet_held lane k (net.buffer x p v))

-- what a link holds of the packet, likewise
abbrev pub class_line : Shape → Network → Lane → ℕ → ℕ → ℕ → List Flit
class_line s net lane k x o = class_joined s lane.class (λ v. packet_held lane k (on_channel v (net.out x o)))

-- The packets' cut, each place read channel by channel of the packet's class.
abbrev pub ChannelsCut : Shape → Network → Type 0
ChannelsCut s net = (lane : Lane) (k : ℕ) → HasLane s lane →
    packet_held lane k (net.out lane.dst s.terminal) ++
    (underway_from s (class_store s net lane k) (class_line s net lane k) lane.dst
    (s.hops lane.src lane.dst) lane.src s.terminal ++ packet_held lane k (net.unfed lane.src lane.class)) ≡
    packet_held lane k (net.injected lane.src lane.class)
