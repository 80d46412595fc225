-- What a step leaves of a sound network, whatever it was answered: each lane of a class with one channel has made its
-- move, or none, and nothing follows a close mark.
use Rattle.std.proofs.Common.{◌≡◌, Ok, Err, sym, subst}
use Rattle.std.specs.Prelude.{Result}
use Rattle.worm_theory.specs.Steps.{Step}
use Rattle.worm_flit.specs.declared.Flit.{Flit}
use Rattle.worm_route.specs.LaneMachine.{Machine}
use Rattle.worm_theory.specs.LaneMoves.{MovesOne, lane_machine}
use Rattle.worm_theory.proofs.Machines.{each_moves_one}
use Rattle.worm_region.specs.Shape.{net_shape}
use Rattle.worm_region.specs.State.{NetState, IsNet, shape, network_of}
use Rattle.worm_region.specs.Answers.{Answers, IsDone}
use Rattle.worm_region.specs.declared.step.Moved.{Moved}
use Rattle.worm_region.specs.declared.step.Moved.TheVariants.{Done, Idle}
use Rattle.worm_region.specs.declared.fault.StepFault.{StepFault}
use Rattle.worm_region.specs.declared.fault.StepFault.TheVariants.{NoSuchPlace, Refused, NoMemory}
use Rattle.worm_core.specs.StepMoves.{MovesAfter, MovesOneLane, machine_in}

done_moves : (a b : NetState) (step : Step) → IsNet a → IsDone a step b → MovesAfter a step b
unfolding net_shape
done_moves a b step net d lane c there alone =
    let same : lane_machine a.mesh (shape a) (network_of b) lane c ≡ machine_in b lane c =
    λ t. lane_machine (sym d.config.mesh t)
    (net_shape (sym d.config.mesh t) (sym d.config.channels t) (sym d.config.depth t)) (network_of b) lane c in
    let moved : MovesOne (shape a) (network_of a) step lane (machine_in a lane c)
    (lane_machine a.mesh (shape a) (network_of b) lane c) =
    subst (λ n. MovesOne (shape a) (network_of a) step lane (machine_in a lane c)
    (lane_machine a.mesh (shape a) n lane c)) (sym d.after_it)
    (each_moves_one a.mesh a.channels a.depth net.framed.radices net.framed.classes (network_of a) step lane c there
    alone net.sound d.there d.enabled) in
    subst (λ (m : Machine Flit). MovesOne (shape a) (network_of a) step lane (machine_in a lane c) m) same moved

pub moves_one_lane : (a b : NetState) (step : Step) (answer : Result Moved StepFault) → IsNet a
    → Answers a step answer b → MovesOneLane a step answer b
moves_one_lane a b step (Ok Done) net d = done_moves a b step net d
moves_one_lane a b step (Ok Idle) net i = i.3
moves_one_lane a b step (Err NoSuchPlace) net i = i.1
moves_one_lane a b step (Err (Refused why)) net i = i.3
moves_one_lane a b step (Err NoMemory) net i = i.3
