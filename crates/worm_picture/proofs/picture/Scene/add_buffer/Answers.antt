use Rattle.std.proofs.Common.{[], refl}
use Rattle.worm_picture.proofs.Names.{adds, number, word}
use Rattle.worm_picture.proofs.picture.Scene.add_buffer.Goals as goal

pub returns : goal.returns
returns c =
    adds c.write.result c.args.svg.now (record { text = c.write.new.self }) _ [] c.write.ensures.bytes
    (word c.slots_of-class.result.now _ [] c.slots_of-class.ensures.plain
    (number _ _ [] (number _ _ [] (number _ _ [] (λ rest. refl)))))
