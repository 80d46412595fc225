use Rattle.std.proofs.Common.{[], refl}
use Rattle.worm_picture.proofs.Names.{adds, number}
use Rattle.worm_picture.proofs.picture.Scene.add_arrived_mark.Goals as goal

pub returns : goal.returns
returns c =
    adds c.write.result c.args.svg.now (record { text = c.write.new.self }) _ [] c.write.ensures.bytes
    (number _ _ [] (number _ _ [] (λ rest. refl)))
