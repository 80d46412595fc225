-- Where the theory lets the flits of a lane stand, beside the buffers that the lane's route enters: the links that it
-- leaves by.
use Rattle.std.specs.Prelude.{ℕ, ◌≡◌, Some}
use Rattle.worm_flit.specs.declared.Lane.{Lane}
use Rattle.worm_theory.specs.Shape.{Shape, Enters}

-- the route of the lane leaves node x by this port, over a link
pub record LeavesBy (s : Shape) (lane : Lane) (x port : ℕ) : Type 0 where
  pub from_port : ℕ
  pub entered : Enters s lane x from_port
  pub by_port : s.next_port x lane.dst ≡ port
  pub to : ℕ
  pub linked : s.neighbour x port ≡ Some to
