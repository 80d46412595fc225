-- What goes over the links between nodes that were split.
use Rattle.std.specs.Prelude.{◌≡◌, ℕ, List, ◌++◌, Some, All}
use Rattle.worm_flit.specs.declared.Flit.{Flit}
use Rattle.worm_flit.specs.Stamps.{on_channel}
use Rattle.worm_theory.specs.Worm.{MayCome, Runs}
use Rattle.worm_theory.specs.Shape.{Shape}
use Rattle.worm_theory.specs.Network.{Network}
use Rattle.worm_theory.specs.Sound.{Leaves}
use Rattle.worm_theory.specs.Parts.{Parts, worm_end, opened, reached}

-- What the link by port o from node y to node x holds, and its credit line: what was sent on it is what arrived and
-- then these flits; what was given is what was counted and then these credits. This is known where both ends are.
pub record LinkHolds (s : Shape) (parts : Parts) (y o x : ℕ) (flits : List Flit) (credits : List ℕ) : Type 0 where
  pub sent : parts.near.out y o ≡ parts.arrived x (s.opposite o) ++ flits
  pub given : parts.given x (s.opposite o) ≡ parts.near.credit_list y o ++ credits

-- the flit goes on from where its channel of an input port stands past these flits, the first of which came after the
-- split
abbrev pub GoesOn : Network → ℕ → ℕ → List Flit → Flit → Type 0
GoesOn old x p fs f = MayCome (worm_end (opened old x p f.vc) (on_channel f.vc fs)) f

-- The flit may go onto the link of a port: it goes on from all that was sent on it, and it crosses the link.
pub record MayPush (s : Shape) (old : Network) (parts : Parts) (y o : ℕ) (f : Flit) : Type 0 where
  pub follows : (x : ℕ) → s.neighbour y o ≡ Some x → GoesOn old x (s.opposite o) (parts.near.out y o) f
  pub crosses : Leaves s y o f

-- These flits of a link, the front first, may arrive one after another: on each channel they go on from where it
-- stands, and each crosses the link.
pub record MayArrive (s : Shape) (old : Network) (parts : Parts) (x p : ℕ) (fs : List Flit) : Type 0 where
  pub follow : (v : ℕ) → Runs (reached old parts x p v) (on_channel v fs)
      (worm_end (reached old parts x p v) (on_channel v fs))
  pub cross : (y : ℕ) → s.neighbour x p ≡ Some y → All (Leaves s y (s.opposite p)) fs
