use Rattle.std.proofs.Common.{[], refl}
use Rattle.std.specs.Prelude.{codes}
use Rattle.worm_picture.specs.declared.svg.Svg.{Svg}
use Rattle.worm_picture.specs.Ways.{way_path}
use Rattle.worm_picture.proofs.Names.{adds, both, none_then, path, word, wrote_none}
use Rattle.worm_picture.proofs.ways.add_way.Goals as goal

pub returns : goal.returns
returns c =
    let class = c.way_of-class.result.now in
    let plain = c.way_of-class.ensures.plain in
    let colour = c.colour_of-colour.result.now in
    let edged : Svg = record { text = c.write.new.self } in
    let end = both (way_path c.args.way) (codes "\"/>\n") [] [] (path c.args.way) (λ rest. refl) in
    none_then c.write-2.result _ _ _
    (wrote_none c.args.svg.now edged _ c.in_ok-write.ensures.bytes (word class _ [] plain end))
    (adds c.write-2.result edged (record { text = c.write-2.new.self }) _ [] c.write-2.ensures.bytes
    (word class _ [] plain (word colour _ [] c.colour_of-colour.ensures.plain end)))
