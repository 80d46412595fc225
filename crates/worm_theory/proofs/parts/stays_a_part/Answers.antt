use Rattle.worm_theory.proofs.RegionQueues.{first_part}
use Rattle.worm_theory.proofs.Regions.{step_part, steps_part, own_sound, link_room, count_room}
use Rattle.worm_theory.proofs.parts.stays_a_part.Goals as goal

pub returns-clause-first : goal.returns-clause-first
returns-clause-first c = λ s old own net mesh was first. first_part s mesh old own was net first

pub returns-clause-step : goal.returns-clause-step
returns-clause-step c =
    λ s old own net taken returned step mesh here there enabled part.
    step_part s mesh old own taken returned net step here there enabled part

pub returns-clause-steps : goal.returns-clause-steps
returns-clause-steps c =
    λ s old own net new taken returned steps mesh here lead part.
    steps_part s mesh old own taken returned steps net new here lead part

pub returns-clause-sound : goal.returns-clause-sound
returns-clause-sound c = λ s old own net taken returned mesh part. own_sound s mesh old own net taken returned part

pub returns-clause-room : goal.returns-clause-room
returns-clause-room c =
    λ s old own net taken returned mesh was part y o x linked near here f flits front.
    link_room s mesh old own net taken returned part was y o x linked near here f flits front

pub returns-clause-credit_room : goal.returns-clause-credit_room
returns-clause-credit_room c =
    λ s old own net taken returned mesh was part y o x linked near here d credits front.
    count_room s mesh old own net taken returned part was y o x linked near here d credits front
