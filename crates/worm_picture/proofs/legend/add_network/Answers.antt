use Rattle.std.proofs.Common.{[], refl}
use Rattle.worm_picture.proofs.Names.{adds, none_then, number}
use Rattle.worm_picture.proofs.legend.add_network.Goals as goal

pub returns : goal.returns
returns c =
    none_then c.write.result _ _ _ c.in_ok-add_radices.ensures
    (adds c.write.result c.add_radices.new.svg (record { text = c.write.new.self }) _ [] c.write.ensures.bytes
    (number _ _ [] (number _ _ [] (number _ _ [] (λ rest. refl)))))
