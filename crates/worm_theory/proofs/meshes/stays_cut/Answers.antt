use Rattle.worm_theory.proofs.PlaceCuts.{lanes_are_cut, packets_are_cut}
use Rattle.worm_theory.proofs.PastPlaces.{open_is_active}
use Rattle.worm_theory.proofs.Elsewhere.{nowhere_else}
use Rattle.worm_theory.proofs.StepsCut.{steps_kept}
use Rattle.worm_theory.proofs.meshes.stays_cut.Goals as goal

pub returns-clause-lanes : goal.returns-clause-lanes
returns-clause-lanes c = λ ks counts depth steps new mesh classes lead.
    lanes_are_cut ks counts depth mesh new (steps_kept ks counts depth steps new mesh classes lead).lanes

pub returns-clause-packets : goal.returns-clause-packets
returns-clause-packets c = λ ks counts depth steps new mesh classes lead.
    let kept = steps_kept ks counts depth steps new mesh classes lead in
    packets_are_cut ks counts depth mesh new classes kept.sound kept.packets

pub returns-clause-one : goal.returns-clause-one
returns-clause-one c = λ ks counts depth steps new mesh classes lead.
    let kept = steps_kept ks counts depth steps new mesh classes lead in
    open_is_active ks counts depth mesh classes new kept.sound kept.packets

pub returns-clause-elsewhere : goal.returns-clause-elsewhere
returns-clause-elsewhere c = λ ks counts depth steps new mesh classes lead.
    nowhere_else ks counts depth new mesh (steps_kept ks counts depth steps new mesh classes lead).sound
