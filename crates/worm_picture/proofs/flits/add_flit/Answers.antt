use Rattle.std.proofs.Common.{[], ◌∷◌}
use Rattle.worm_picture.specs.Picture.{title_of}
use Rattle.worm_picture.proofs.Names.{adds_both, adds_then}
use Rattle.worm_picture.proofs.flits.add_flit.Goals as goal

pub returns : goal.returns
returns c =
    let named = title_of c.args.packet.last c.args.flit.now ∷ [] in
    let shaped = adds_both _ _ _ named [] c.in_ok-add_title.ensures c.in_ok-add_shape.ensures in
    adds_then c.close.result _ _ _ named [] shaped c.close.ensures
