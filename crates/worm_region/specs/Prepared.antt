-- What a node does in a turn before anything leaves it, once its source was asked (Dally and Towles, chapter 16).
use Rattle.std.specs.Prelude.{ℕ, None}
use Rattle.worm_router.specs.Allocation.{after_allocate}
use Rattle.worm_region.specs.Replies.{Attempts}
use Rattle.worm_region.specs.State.{NetState, router_at, with_router}
use Rattle.worm_region.specs.Turns.{Chooses, ComesInBy}
use Rattle.worm_region.specs.Workable.{IsWorkable}

-- the network after a pass of the node's channel allocator
abbrev pub allocated_at : ℕ → NetState → NetState
allocated_at x s = with_router s x (after_allocate (router_at s x))

-- What comes in is taken and routed, and both allocators pass, the switch allocator granting these channels. What a
-- move needs of a region holds of the networks between, too.
pub record Prepares (x granted : ℕ) (old new : NetState) : Type 0 where
  pub came : NetState
  pub comes : ComesInBy Attempts x old None came
  pub chooses : Chooses x granted (allocated_at x came) new
  pub workable : IsWorkable came
  pub still_workable : IsWorkable (allocated_at x came)
