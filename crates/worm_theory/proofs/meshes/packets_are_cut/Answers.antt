use Rattle.worm_theory.proofs.PlaceCuts.{packets_are_cut}
use Rattle.worm_theory.proofs.PastPlaces.{open_is_active}
use Rattle.worm_theory.proofs.meshes.packets_are_cut.Goals as goal

pub returns-clause-list : goal.returns-clause-list
returns-clause-list c = λ ks counts depth net mesh classes sound hold.
    packets_are_cut ks counts depth mesh net classes sound hold

pub returns-clause-one : goal.returns-clause-one
returns-clause-one c = λ ks counts depth net mesh classes sound hold.
    open_is_active ks counts depth mesh classes net sound hold
