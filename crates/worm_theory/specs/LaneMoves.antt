-- The machine of a lane whose class owns one channel, over the lane's places; and which lane's machine a step moves.
use Rattle.std.specs.Prelude.{ℕ, ◌≡◌, ◌≢◌, ◌==◌, cond, List, [], ◌∷◌, map, Option, Some, None}
use Rattle.worm_flit.specs.declared.Lane.{Lane}
use Rattle.worm_flit.specs.declared.Flit.{Flit}
use Rattle.worm_flit.specs.Stamps.{bare, on_channel}
use Rattle.worm_flit.specs.Packets.{packet_flits, mark}
use Rattle.worm_records.specs.declared.InRecord.{InRecord}
use Rattle.worm_records.specs.declared.InRecord.TheVariants.{Active}
use Rattle.worm_route.specs.Places.{Place, Source, Buffer, Link, places_of, IsPlaceOf}
use Rattle.worm_route.specs.LaneMachine.{Machine, machine_of, Raises, Appends}
use Rattle.worm_theory.specs.Shape.{Shape, HasLane, Owns, OwnsAlone}
use Rattle.worm_theory.specs.Network.{Network}
use Rattle.worm_theory.specs.Steps.{Step, Offer, CloseLane, Feed, Send, Take, next_number, IsThere, Enabled, after}
use Rattle.worm_theory.specs.Sound.{Sound}
use Rattle.worm_theory.specs.Cut.{held, delivered}

-- what a place holds of the lane, channel numbers aside. At the terminal there is no link, but the sink.
abbrev pub lane_held : Shape → Network → Lane → ℕ → Place → List Flit
lane_held s net lane c Source = held lane (net.unfed lane.src lane.class)
lane_held s net lane c (Buffer x p) = held lane (net.buffer x p c)
lane_held s net lane c (Link x o) = cond (o == s.terminal) [] (held lane (net.out x o))

-- what was delivered of the lane, then what its places hold from the sink back
abbrev pub lane_machine : List ℕ → Shape → Network → Lane → ℕ → Machine Flit
lane_machine ks s net lane c = machine_of (delivered s net lane) (lane_held s net lane c)
    (places_of ks lane.src lane.dst)

-- the lane of the flit in front; of the flit that a record would send; of the flit in front of a link
abbrev pub front_lane : List Flit → Option Lane
front_lane [] = None
front_lane (f ∷ fs) = Some f.lane

abbrev pub sent_lane : InRecord → List Flit → Option Lane
sent_lane (Active o c) fs = front_lane fs
sent_lane r fs = None

abbrev pub taken_lane : Network → ℕ → Option ℕ → Option Lane
taken_lane net o None = None
taken_lane net o (Some y) = front_lane (net.out y o)

-- the lane whose flits a step brings in or moves
abbrev pub lane_of : Shape → Network → Step → Option Lane
lane_of s net (Offer x lane words) = Some lane
lane_of s net (CloseLane x lane) = Some lane
lane_of s net (Feed x k) = front_lane (net.unfed x k)
lane_of s net (Send x p v) = sent_lane (net.in_record x p v) (net.buffer x p v)
lane_of s net (Take x p) = taken_lane net (s.opposite p) (s.neighbour x p)
lane_of s net step = None

-- the one move that a step makes of its lane's machine
abbrev pub IsMove : Network → Step → Machine Flit → Machine Flit → Type 0
IsMove net (Offer x lane words) old new = Appends old new (map bare (packet_flits lane (next_number net lane) words))
IsMove net (CloseLane x lane) old new = Appends old new (map bare (mark lane (next_number net lane) ∷ []))
IsMove net step old new = Raises old new

-- a step makes its one move of its own lane's machine, and none of another lane's
pub record MovesOne (s : Shape) (net : Network) (step : Step) (lane : Lane) (old new : Machine Flit) : Type 0 where
  pub own : lane_of s net step ≡ Some lane → IsMove net step old new
  pub other : (lane_of s net step ≡ Some lane → ⊥) → new ≡ old

-- each step makes at most one move of one such machine, of lanes whose class owns one channel, c
abbrev pub EachMovesOne : List ℕ → Shape → Type 0
EachMovesOne ks s = (net : Network) (step : Step) (lane : Lane) (c : ℕ) → HasLane s lane → OwnsAlone s lane.class c
    → Sound s net → IsThere s step → Enabled s net step →
    MovesOne s net step lane (lane_machine ks s net lane c) (lane_machine ks s (after s net step) lane c)

-- The lane cut by its places, of each lane whose class owns one channel: the flits delivered, followed by those at each
-- place from the sink back, are the flits injected, channel numbers aside.
abbrev pub LanesAreCut : List ℕ → Shape → Network → Type 0
LanesAreCut ks s net = (lane : Lane) (c : ℕ) → HasLane s lane → Owns s lane.class c → OwnsAlone s lane.class c →
    (lane_machine ks s net lane c).items ≡ held lane (net.injected lane.src lane.class)

-- no place but the lane's own, no sink but its destination's, and no channel but its class's holds a flit of the lane
pub record NoneElsewhere (ks : List ℕ) (s : Shape) (net : Network) (lane : Lane) : Type 0 where
  pub buffers : (x p v : ℕ) → (IsPlaceOf ks lane.src lane.dst (Buffer x p) → ⊥) → held lane (net.buffer x p v) ≡ []
  pub links : (x o : ℕ) → o ≢ s.terminal → (IsPlaceOf ks lane.src lane.dst (Link x o) → ⊥)
      → held lane (net.out x o) ≡ []
  pub sinks : (x : ℕ) → x ≢ lane.dst → held lane (net.out x s.terminal) ≡ []
  pub sources : (x class : ℕ) → (x ≡ lane.src → class ≡ lane.class → ⊥) → held lane (net.unfed x class) ≡ []
  pub buffer_channels : (x p v : ℕ) → (Owns s lane.class v → ⊥) → held lane (net.buffer x p v) ≡ []
  pub link_channels : (x o v : ℕ) → (Owns s lane.class v → ⊥) → held lane (on_channel v (net.out x o)) ≡ []

abbrev pub LanesAreNowhereElse : List ℕ → Shape → Network → Type 0
LanesAreNowhereElse ks s net = (lane : Lane) → HasLane s lane → NoneElsewhere ks s net lane
