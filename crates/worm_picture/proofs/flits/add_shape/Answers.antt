use Rattle.std.proofs.Common.{[], refl}
use Rattle.worm_picture.specs.declared.svg.Svg.{Svg}
use Rattle.worm_picture.proofs.Names.{adds, none_then, number, word, wrote_none}
use Rattle.worm_picture.proofs.flits.add_shape.Goals as goal

pub returns : goal.returns
returns c =
    let shaped : Svg = record { text = c.write.new.self } in
    none_then c.write-2.result _ _ _
    (wrote_none c.args.svg.now shaped _ c.in_ok-write.ensures.bytes
    (word c.shape_of-shape.result.now _ [] c.shape_of-shape.ensures.plain
    (number c.args.x _ [] (number c.args.y _ []
    (word c.colour_of-colour.result.now _ [] c.colour_of-colour.ensures.plain (λ rest. refl))))))
    (adds c.write-2.result shaped (record { text = c.write-2.new.self }) _ [] c.write-2.ensures.bytes
    (word c.mark_of-mark.result.now _ [] c.mark_of-mark.ensures.plain
    (number c.args.x _ [] (number c.args.y _ [] (λ rest. refl)))))
