-- What a step does to the lanes of a network whose class owns one channel: at most one move of one lane.
use Rattle.std.specs.Prelude.{ℕ, ◌≡◌, Result, Ok, Err}
use Rattle.worm_flit.specs.declared.Lane.{Lane}
use Rattle.worm_flit.specs.declared.Flit.{Flit}
use Rattle.worm_route.specs.LaneMachine.{Machine}
use Rattle.worm_theory.specs.Shape.{HasLane, OwnsAlone}
use Rattle.worm_theory.specs.Steps.{Step}
use Rattle.worm_theory.specs.LaneMoves.{MovesOne, lane_machine}
use Rattle.worm_region.specs.declared.step.Moved.{Moved}
use Rattle.worm_region.specs.declared.step.Moved.TheVariants.{Done, Idle}
use Rattle.worm_region.specs.declared.fault.StepFault.{StepFault}
use Rattle.worm_region.specs.State.{NetState, shape, network_of}

-- what was delivered of the lane, then what its places hold from the sink back; c is its class's channel
abbrev pub machine_in : NetState → Lane → ℕ → Machine Flit
machine_in s lane c = lane_machine s.mesh (shape s) (network_of s) lane c

-- A step that is done makes its one move of its own lane: an offer or a close appends what it brings, a feed, a send or
-- a take raises one number, and all others move none. No other lane moves.
abbrev pub MovesAfter : NetState → Step → NetState → Type 0
MovesAfter old step new = (lane : Lane) (c : ℕ) → HasLane (shape old) lane → OwnsAlone (shape old) lane.class c →
    MovesOne (shape old) (network_of old) step lane (machine_in old lane c) (machine_in new lane c)

-- one that is not done changes nothing
abbrev pub MovesOneLane : NetState → Step → Result Moved StepFault → NetState → Type 0
MovesOneLane old step (Ok Done) new = MovesAfter old step new
MovesOneLane old step (Ok Idle) new = new ≡ old
MovesOneLane old step (Err fault) new = new ≡ old
