-- The nodes joined to a network again.
use Rattle.std.specs.Prelude.{◌≡◌, ℕ, List, [], Some, None}
use Rattle.worm_flit.specs.declared.Flit.{Flit}
use Rattle.worm_theory.specs.Shape.{Shape}
use Rattle.worm_theory.specs.Network.{Network}
use Rattle.worm_theory.specs.Sound.{Sound, OthersIdle, OnesClosed}
use Rattle.worm_theory.specs.Cut.{LanesCut}
use Rattle.worm_theory.specs.PacketCut.{PacketsHold}
use Rattle.worm_theory.specs.Parts.{Parts}
use Rattle.worm_theory.specs.Links.{LinkHolds}

-- What all links and credit lines hold when the nodes have stopped. A port with no link keeps what it sent, and has no
-- credits coming.
pub record IsRest (s : Shape) (parts : Parts) (flits : ℕ → ℕ → List Flit) (credits : ℕ → ℕ → List ℕ) : Type 0 where
  pub links : (y o x : ℕ) → s.neighbour y o ≡ Some x → LinkHolds s parts y o x (flits y o) (credits y o)
  pub ends : (y o : ℕ) → s.neighbour y o ≡ None → (flits y o ≡ parts.near.out y o) × (credits y o ≡ [])

-- the nodes as they are, and this on their links and credit lines
abbrev pub joined_parts : Parts → (ℕ → ℕ → List Flit) → (ℕ → ℕ → List ℕ) → Network
joined_parts parts flits credits = record parts.near { out = flits; credit_list = credits }

-- All that is kept of a network.
pub record Holds (s : Shape) (net : Network) : Type 0 where
  pub sound : Sound s net
  pub cut : LanesCut s net
  pub packets : PacketsHold s net
  pub others : OthersIdle s net
  pub closed : OnesClosed s net
