use Rattle.std.proofs.Common.{[], refl}
use Rattle.worm_picture.proofs.Names.{adds, word}
use Rattle.worm_picture.proofs.svg.Svg.open_frame.Goals as goal

pub returns : goal.returns
returns c =
    adds c.write.result c.args.self.now (record { text = c.write.new.self }) _ [] c.write.ensures.bytes
    (word c.transform-transform.result.now _ [] c.transform-transform.ensures.plain (λ rest. refl))
