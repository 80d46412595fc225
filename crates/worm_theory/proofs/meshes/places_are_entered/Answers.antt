use Rattle.worm_mesh.proofs.Digits.{AreLarge-from_radices}
use Rattle.worm_route.specs.Places.{Buffer, Link}
use Rattle.worm_theory.proofs.Stands.{stands_at, entered_place, left_place, source_place}
use Rattle.worm_theory.proofs.meshes.places_are_entered.Goals as goal

pub returns-clause-buffers : goal.returns-clause-buffers
returns-clause-buffers c = λ ks counts depth lane mesh there x p.
    let l = AreLarge-from_radices ks mesh.radices in
    (λ h. entered_place ks counts depth l lane there h, λ h. stands_at ks counts depth l lane there (Buffer x p) h)

pub returns-clause-links : goal.returns-clause-links
returns-clause-links c = λ ks counts depth lane mesh there x o.
    let l = AreLarge-from_radices ks mesh.radices in
    (λ h. left_place ks counts depth l lane there h, λ h. stands_at ks counts depth l lane there (Link x o) h)

pub returns-clause-source : goal.returns-clause-source
returns-clause-source c = λ ks counts depth lane mesh there. source_place ks counts depth
    (AreLarge-from_radices ks mesh.radices) lane there
