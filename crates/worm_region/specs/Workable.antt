-- What the moves of a network need of it. It is local, and kept move by move, so it holds of a part of a network as
-- well: nothing is said of worms, or of what was injected.
use Rattle.std.specs.Prelude.{◌≡◌, ℕ, ◌+◌, ◌<◌, ◌≤◌, ◌==◌, Bool, true, false, length, Some}
use Rattle.std.specs.List.{All, count_by}
use Rattle.worm_flit.specs.declared.Flit.{Flit}
use Rattle.worm_flit.specs.Stamps.{on_channel}
use Rattle.worm_records.specs.declared.InRecord.{InRecord}
use Rattle.worm_records.specs.declared.InRecord.TheVariants.{Idle, Waiting, Active}
use Rattle.worm_theory.specs.Shape.{Shape}
use Rattle.worm_theory.specs.Network.{Network}
use Rattle.worm_theory.specs.Steps.{IsLinked, IsPort}
use Rattle.worm_theory.specs.Sound.{CreditsAreChannels}
use Rattle.worm_region.specs.Owned.{owned_by}
use Rattle.worm_region.specs.State.{NetState, IsFramed, shape, network_of}

-- a record that waits, waits for a port of the node; one that is active has a channel of such a port, and holds it
abbrev pub LeadsOn : Shape → Network → ℕ → ℕ → ℕ → InRecord → Type 0
LeadsOn s net x p v Idle = Unit {0}
LeadsOn s net x p v (Waiting o) = IsPort s x o
LeadsOn s net x p v (Active o c) = IsPort s x o × (c < s.vcs) × (net.holder x o c ≡ Some (p, v))

-- a flit in a buffer: its destination is there, and so is the port
pub record IsKept (s : Shape) (x p : ℕ) (f : Flit) : Type 0 where
  pub goal : f.lane.dst < s.nodes
  pub port : IsPort s x p

-- a flit that left a buffer: its destination and its channel are there
pub record IsSent (s : Shape) (f : Flit) : Type 0 where
  pub goal : f.lane.dst < s.nodes
  pub channel : f.vc < s.vcs

-- a flit that a source has yet to feed
abbrev pub IsBound : Shape → Flit → Type 0
IsBound s f = f.lane.dst < s.nodes

-- Per channel of a link of which both ends are owned: each place of the downstream buffer is a credit upstream, a flit
-- on the link or in the buffer, a credit owed or a credit on its way back. Of a link of which one end is elsewhere
-- nothing is said.
abbrev pub OwnCreditsAdd : Shape → (ℕ → Bool) → Network → Type 0
OwnCreditsAdd s own net = (y o x v : ℕ) → v < s.vcs → s.neighbour y o ≡ Some x → own y ≡ true → own x ≡ true →
    net.credits y o v + length (on_channel v (net.out y o)) + length (net.buffer x (s.opposite o) v)
    + net.owed x (s.opposite o) v + count_by (λ c. v == c) (net.credit_list y o) ≡ s.depth

-- an output channel of a link has no more credits than its buffer has places
abbrev pub CreditsFit : Shape → Network → Type 0
CreditsFit s net = (x o y c : ℕ) → s.neighbour x o ≡ Some y → c < s.vcs → net.credits x o c ≤ s.depth

-- a port's links, if it has any, have both ends among the nodes that are owned
abbrev pub EndsWithin : Shape → (ℕ → Bool) → ℕ → ℕ → Type 0
EndsWithin s own x o = (y : ℕ) → s.neighbour x o ≡ Some y → (own x ≡ true) × (own y ≡ true)

-- the port has a link, and the node at its other end is elsewhere
abbrev pub EndsElsewhere : Shape → (ℕ → Bool) → ℕ → ℕ → Type 0
EndsElsewhere s own x o = IsLinked (s.neighbour x o) (λ y. own y ≡ false)

pub record Works (s : Shape) (own : ℕ → Bool) (net : Network) : Type 0 where
  pub records : (x p v : ℕ) → x < s.nodes → LeadsOn s net x p v (net.in_record x p v)
  pub buffered : (x p v : ℕ) → All (IsKept s x p) (net.buffer x p v)
  pub out : (x o : ℕ) → All (IsSent s) (net.out x o)
  pub entries : CreditsAreChannels s net
  pub few : CreditsFit s net
  pub credits : OwnCreditsAdd s own net
  pub unfed : (x k : ℕ) → All (IsBound s) (net.unfed x k)

-- of the lists of a network of which these nodes are owned
pub record IsWorkableBy (own : ℕ → Bool) (s : NetState) : Type 0 where
  pub framed : IsFramed s
  pub works : Works (shape s) own (network_of s)

-- whether the node is owned by whoever has these lists
abbrev pub owned : NetState → ℕ → Bool
owned s = owned_by s.own

abbrev pub IsWorkable : NetState → Type 0
IsWorkable s = IsWorkableBy (owned s) s
