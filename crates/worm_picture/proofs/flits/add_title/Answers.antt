use Rattle.std.proofs.Common.{[], ◌∷◌}
use Rattle.worm_picture.specs.Titles.{flit_title}
use Rattle.worm_picture.proofs.Names.{adds, title}
use Rattle.worm_picture.proofs.flits.add_title.Goals as goal

pub returns : goal.returns
returns c =
    let t = c.args.title in
    adds c.write.result c.args.svg.now (record { text = c.write.new.self }) _
    (flit_title t ∷ []) c.write.ensures.bytes (title t)
