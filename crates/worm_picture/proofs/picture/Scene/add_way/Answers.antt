use Rattle.worm_picture.proofs.Names.{none_both, none_then}
use Rattle.worm_picture.proofs.picture.Scene.add_way.Goals as goal

pub returns : goal.returns
returns c =
    none_then c.close-2.result _ _ _ (none_both _ _ _ (none_both _ _ _ (none_both _ _ _ (none_both _ _ _
    c.in_ok-open_frame.ensures c.in_ok-add_way.ensures) c.in_ok-close.ensures) c.in_ok-open_frame-2.ensures)
    c.in_ok-add_way-2.ensures) c.close-2.ensures
