-- Which lanes may have something under way: a mark for each lane of a network.
use Rattle.std.specs.Prelude.{ℕ, ◌+◌, ◌*◌, ◌<◌, ◌≤◌, ◌≡◌, Bool, true, false, List, [], drop, length, sum}
use Rattle.std.specs.Prelude.{slice_index_or, slice_set, All, IsSome}
use Rattle.worm_flit.specs.declared.Lane.{Lane}
use Rattle.worm_flit.specs.declared.Flit.{Flit}
use Rattle.worm_mesh.specs.Address.{neighbour_of, node_count}
use Rattle.worm_router.specs.Router.{input_at}
use Rattle.worm_region.specs.Moves.{link_out}
use Rattle.worm_region.specs.State.{NetState, router_at, queue_of, link_at}
use Rattle.worm_core.specs.LaneView.{underway_view}

-- the marks of the lanes between so many nodes in so many classes, by source, then destination, then class
pub record LaneMarks : Type 0 where
  pub nodes : ℕ
  pub classes : ℕ
  pub marks : List Bool

abbrev pub lane_line : LaneMarks → Lane → ℕ
lane_line set lane = (lane.src * set.nodes + lane.dst) * set.classes + lane.class

-- the lane is marked; one that the set has no place for counts as marked
abbrev pub is_marked : LaneMarks → Lane → Bool
is_marked set lane = slice_index_or set.marks (lane_line set lane) true

-- no lane from this source to one of so many nodes, in one of so many classes, is marked
abbrev pub LacksAllFrom : LaneMarks → ℕ → ℕ → ℕ → Type 0
LacksAllFrom set src nodes classes = (dst class : ℕ) → dst < nodes → class < classes
    → is_marked set (record { src = src; dst = dst; class = class }) ≡ false

abbrev pub with_mark : LaneMarks → Lane → LaneMarks
with_mark set lane = record set { marks = slice_set set.marks (lane_line set lane) true }

-- the lanes of these flits are all marked
abbrev pub AllMarked : LaneMarks → List Flit → Type 0
AllMarked set fs = All (λ (f : Flit). is_marked set f.lane ≡ true) fs

-- no mark is lost
pub record KeepsMarks (old new : LaneMarks) : Type 0 where
  pub kept : (lane : Lane) → is_marked old lane ≡ true → is_marked new lane ≡ true

-- a lane of the network without a mark has nothing under way
abbrev pub IsComplete : NetState → LaneMarks → Type 0
IsComplete s set = (lane : Lane) → lane.src < node_count s.mesh → lane.dst < node_count s.mesh
    → lane.class < length s.channels →
    is_marked set lane ≡ false → underway_view s lane ≡ []

-- the lanes of what the first n nodes' sources and routers hold are all marked
pub record NodesMarked (s : NetState) (set : LaneMarks) (n : ℕ) : Type 0 where
  pub sources : (x k : ℕ) → x < n → k < length s.channels
      → AllMarked set (drop (queue_of s x k).fed (queue_of s x k).injected)
  pub buffers : (x p v : ℕ) → x < n → p ≤ 2 * length s.mesh → v < sum s.channels
      → AllMarked set (input_at (router_at s x) p v).buffer

-- those of what the link out of this port holds, if there is one
abbrev pub IsMarkedOut : NetState → LaneMarks → ℕ → ℕ → Type 0
IsMarkedOut s set x o = IsSome (neighbour_of s.mesh x o) → AllMarked set (link_at s (link_out s x o)).flits

-- those of what the links out of the first n nodes hold
pub record LinksMarked (s : NetState) (set : LaneMarks) (n : ℕ) : Type 0 where
  pub links : (x o : ℕ) → x < n → o < 2 * length s.mesh → IsMarkedOut s set x o
