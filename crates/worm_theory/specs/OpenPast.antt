-- Which packet is open past an input channel, and what the channel's records say then (Dally and Towles, chapter 16).
use Rattle.std.specs.Prelude.{◌≡◌, ℕ, ◌<◌, true, false, List, [], ◌∷◌, length, Some, IfSome}
use Rattle.worm_flit.specs.declared.Lane.{Lane}
use Rattle.worm_flit.specs.declared.Flit.{Flit}
use Rattle.worm_flit.specs.Kinds.{closes}
use Rattle.worm_flit.specs.Stamps.{bare}
use Rattle.worm_flit.specs.Worms.{Opens, Leads, latest}
use Rattle.worm_records.specs.declared.InRecord.TheVariants.{Active}
use Rattle.worm_theory.specs.Worm.{Within, worm_after}
use Rattle.worm_theory.specs.Shape.{Shape, HasLane, Owns, OwnsAlone, Enters}
use Rattle.worm_theory.specs.Network.{Network}
use Rattle.worm_theory.specs.Steps.{IsPort}
use Rattle.worm_theory.specs.Sound.{Passes}
use Rattle.worm_theory.specs.WormFormed.{awaited, IfFront, RecordBetween}
use Rattle.worm_theory.specs.Cut.{past_from}
use Rattle.worm_theory.specs.PacketCut.{packet_store, packet_line}

-- none of these flits ends its packet
abbrev pub NoneCloses : List Flit → Type 0
NoneCloses [] = Unit {0}
NoneCloses (f ∷ fs) = (closes f.kind ≡ false) × NoneCloses fs

-- what is past node x of the packet, delivered or nearer the sink than the node's buffers
abbrev pub packet_past : Shape → Network → Lane → ℕ → ℕ → List Flit
packet_past s net lane k x = past_from s (packet_store s net lane k) (packet_line net lane k) lane.dst
    (s.hops x lane.dst) x

-- some flit of the packet is past the node, and its closing flit is not
pub record IsOpenPast (s : Shape) (net : Network) (lane : Lane) (k x : ℕ) : Type 0 where
  pub some : 0 < length (packet_past s net lane k x)
  pub unclosed : NoneCloses (packet_past s net lane k x)

-- what left the input channel last is one of the packet's flits and not closing, and the channel is active for the
-- packet
pub record IsWithin (s : Shape) (net : Network) (lane : Lane) (k x p v : ℕ) : Type 0 where
  pub owned : Owns s lane.class v
  pub flit : Flit
  pub last : worm_after (net.last_out x p v) ≡ Within flit
  pub own_lane : lane ≡ flit.lane
  pub own_packet : k ≡ flit.packet
  pub out_vc : ℕ
  pub active : net.in_record x p v ≡ Active (s.next_port x lane.dst) out_vc

-- exactly one input channel of the node, and it is at this port
pub record OneWithinAt (s : Shape) (net : Network) (lane : Lane) (k x p : ℕ) : Type 0 where
  pub vc : ℕ
  pub within : IsWithin s net lane k x p vc
  pub alone : (q w : ℕ) → IsWithin s net lane k x q w → (q ≡ p) × (w ≡ vc)

-- One packet is open past the input channel: the record leads to the next node of the packet's route, or at its end to
-- the terminal, by a channel of its class; what left the buffer last is, channel number aside, the last flit of the
-- packet that is past it; and what comes next is the packet's next flit.
pub record OpenRecord (s : Shape) (net : Network) (lane : Lane) (k x p v : ℕ) : Type 0 where
  pub out_vc : ℕ
  pub active : net.in_record x p v ≡ Active (s.next_port x lane.dst) out_vc
  pub owned : Owns s lane.class out_vc
  pub last : Flit
  pub left : net.last_out x p v ≡ Some last
  pub passed : latest (packet_past s net lane k x) ≡ Some (bare last)
  pub next : Leads last (awaited s net x p v)

-- Exactly one input channel of the node is within the packet, and its records are those of the one packet open past it.
pub record OneOpenAt (s : Shape) (net : Network) (lane : Lane) (k x p : ℕ) : Type 0 where
  pub one : OneWithinAt s net lane k x p
  pub record_of : OpenRecord s net lane k x p one.vc

-- No packet is open past it: what left the buffer last, if anything, ended a packet whose class owns the channel and
-- whose route passes here; what comes next opens a packet; and a record that is not idle is for the front of the
-- buffer.
pub record FreeRecord (s : Shape) (net : Network) (x p v : ℕ) : Type 0 where
  pub done : IfSome (net.last_out x p v) (λ f. (closes f.kind ≡ true) × Passes s x p v f)
  pub next : IfFront (awaited s net x p v) Opens
  pub fits : RecordBetween s x (net.in_record x p v) (net.buffer x p v)

-- a packet that is open past a node is so past exactly one input channel there, and that one's records are its
abbrev pub OpenOnce : Shape → Network → Type 0
OpenOnce s net = (lane : Lane) (k : ℕ) → HasLane s lane → (x p : ℕ) → Enters s lane x p → IsOpenPast s net lane k x
    → OneOpenAt s net lane k x p

-- and an input channel is within no other packet
abbrev pub WithinIsOpen : Shape → Network → Type 0
WithinIsOpen s net = (lane : Lane) (k : ℕ) → HasLane s lane → (x p v : ℕ) → Enters s lane x p
    → IsWithin s net lane k x p v → IsOpenPast s net lane k x

-- A class that owns one channel: the channel's records where one packet is open past it, ..
abbrev pub OpenRecords : Shape → Network → Type 0
OpenRecords s net = (lane : Lane) (k : ℕ) → HasLane s lane → (x p v : ℕ) → Enters s lane x p → Owns s lane.class v
    → OwnsAlone s lane.class v → IsOpenPast s net lane k x → OpenRecord s net lane k x p v

-- .. and that there are never two. For any class: the records where none is.
abbrev pub NeverTwo : Shape → Network → Type 0
NeverTwo s net = (v x p : ℕ) (lane : Lane) (k : ℕ) → HasLane s lane → Enters s lane x p → Owns s lane.class v
    → OwnsAlone s lane.class v → IsOpenPast s net lane k x →
    (other : Lane) (j : ℕ) → HasLane s other → Enters s other x p → Owns s other.class v → OwnsAlone s other.class v
    → IsOpenPast s net other j x → (lane ≡ other) × (k ≡ j)

abbrev pub FreeRecords : Shape → Network → Type 0
FreeRecords s net = (x p v : ℕ) → IsPort s x p
    → ((lane : Lane) (k : ℕ) → HasLane s lane → Enters s lane x p → Owns s lane.class v → IsOpenPast s net lane k x → ⊥)
    → FreeRecord s net x p v

-- an input channel and the output channel that it holds belong to one class
abbrev pub ClassesMatch : Shape → Network → Type 0
ClassesMatch s net = (x p v o c : ℕ) → net.in_record x p v ≡ Active o c → s.owner c ≡ s.owner v
