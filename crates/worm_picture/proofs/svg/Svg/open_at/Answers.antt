use Rattle.std.proofs.Common.{[], refl}
use Rattle.worm_picture.proofs.Names.{adds, number}
use Rattle.worm_picture.proofs.svg.Svg.open_at.Goals as goal

pub returns : goal.returns
returns c =
    adds c.write.result c.args.self.now (record { text = c.write.new.self }) _ [] c.write.ensures.bytes
    (number c.args.x _ [] (number c.args.y _ [] (λ rest. refl)))
