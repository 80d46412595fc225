use Rattle.worm_theory.proofs.PlaceCuts.{machine_stands, lanes_are_cut}
use Rattle.worm_theory.proofs.Machines.{each_moves_one}
use Rattle.worm_theory.proofs.Elsewhere.{nowhere_else}
use Rattle.worm_theory.proofs.meshes.lanes_move_once.Goals as goal

pub returns-clause-stands : goal.returns-clause-stands
returns-clause-stands c = machine_stands

pub returns-clause-list : goal.returns-clause-list
returns-clause-list c = λ ks counts depth net mesh cut. lanes_are_cut ks counts depth mesh net cut

pub returns-clause-step : goal.returns-clause-step
returns-clause-step c = each_moves_one

pub returns-clause-elsewhere : goal.returns-clause-elsewhere
returns-clause-elsewhere c = nowhere_else
