use Rattle.worm_picture.proofs.Names.{none_both}
use Rattle.worm_picture.proofs.picture.Scene.add_grounds.Goals as goal

pub loop-view-preserved : goal.loop-view-preserved
loop-view-preserved c = none_both _ _ _ c.loop-view.invariant c.in_ok-add_ground.ensures
