-- The lane cut: what was delivered of a lane, followed by what is under way from the sink back, is what was injected.
use Rattle.std.specs.Prelude.{◌≡◌, ℕ, zero, suc, Bool, ◌==◌, ◌&&◌, List, [], ◌++◌, map, Option, Some, None}
use Rattle.std.specs.List.{IsDistinct}
use Rattle.worm_flit.specs.declared.Lane.{Lane}
use Rattle.worm_flit.specs.declared.Flit.{Flit}
use Rattle.worm_flit.specs.Stamps.{bare, of_lane}
use Rattle.worm_theory.specs.Shape.{Shape, HasLane, Owns, OwnsAlone}
use Rattle.worm_theory.specs.Network.{Network}
use Rattle.worm_theory.specs.Steps.{lane_injected}

-- the flits of the lane, channel numbers aside
abbrev pub held : Lane → List Flit → List Flit
held lane fs = map bare (of_lane lane fs)

abbrev pub at_link : Option ℕ → (ℕ → List Flit) → List Flit
at_link None list = []
at_link (Some y) list = list y

-- What is under way past node x, which a route enters by port p, n links before its end: from the last node
-- back, what is stored where the route enters a node, and then what is on the link before it.
abbrev pub underway_from : Shape → (ℕ → ℕ → List Flit) → (ℕ → ℕ → List Flit) → ℕ → ℕ → ℕ → ℕ → List Flit
underway_from s store line dst zero x p = store x p
underway_from s store line dst (suc n) x p =
    at_link (s.neighbour x (s.next_port x dst))
    (λ y. underway_from s store line dst n y (s.opposite (s.next_port x dst))) ++
    (line x (s.next_port x dst) ++ store x p)

-- the same with the sink before it, and what of that is past the store of a node
abbrev pub ahead_from : Shape → (ℕ → ℕ → List Flit) → (ℕ → ℕ → List Flit) → ℕ → ℕ → ℕ → ℕ → List Flit
ahead_from s store line dst zero x p = line x (s.next_port x dst) ++ store x p
ahead_from s store line dst (suc n) x p =
    at_link (s.neighbour x (s.next_port x dst))
    (λ y. ahead_from s store line dst n y (s.opposite (s.next_port x dst))) ++
    (line x (s.next_port x dst) ++ store x p)

abbrev pub past_from : Shape → (ℕ → ℕ → List Flit) → (ℕ → ℕ → List Flit) → ℕ → ℕ → ℕ → List Flit
past_from s store line dst zero x = line x (s.next_port x dst)
past_from s store line dst (suc n) x =
    at_link (s.neighbour x (s.next_port x dst)) (λ y. ahead_from s store line dst n y (s.opposite (s.next_port x dst)))
    ++ line x (s.next_port x dst)

-- what the buffers at a port, and a link or a sink, hold of a lane
abbrev pub lane_store : Network → Lane → ℕ → ℕ → ℕ → List Flit
lane_store net lane c x p = held lane (net.buffer x p c)

abbrev pub lane_line : Network → Lane → ℕ → ℕ → List Flit
lane_line net lane x o = held lane (net.out x o)

abbrev pub delivered : Shape → Network → Lane → List Flit
delivered s net lane = held lane (net.out lane.dst s.terminal)

abbrev pub underway : Shape → Network → Lane → ℕ → List Flit
underway s net lane c = underway_from s (lane_store net lane c) (lane_line net lane) lane.dst
    (s.hops lane.src lane.dst) lane.src s.terminal ++ held lane (net.unfed lane.src lane.class)

-- the same packet number and index
abbrev pub same_stamp : Flit → Flit → Bool
same_stamp f g = (f.packet == g.packet) && (f.index == g.index)

-- The lane cut, for each lane whose class owns one channel.
abbrev pub LanesCut : Shape → Network → Type 0
LanesCut s net = (lane : Lane) (c : ℕ) → HasLane s lane → Owns s lane.class c → OwnsAlone s lane.class c →
    delivered s net lane ++ underway s net lane c ≡ held lane (net.injected lane.src lane.class)

-- no two flits that a lane's source accepted have the same stamp
abbrev pub StampsDiffer : Network → Type 0
StampsDiffer net = (lane : Lane) → IsDistinct same_stamp (lane_injected net lane)

-- so each flit of a lane is delivered or under way once
abbrev pub EachOnce : Shape → Network → Type 0
EachOnce s net = (lane : Lane) (c : ℕ) → HasLane s lane → Owns s lane.class c → OwnsAlone s lane.class c
    → IsDistinct same_stamp (delivered s net lane ++ underway s net lane c)
