use Rattle.worm_picture.proofs.Names.{none_both, none_then}
use Rattle.worm_picture.proofs.picture.Scene.add_ground.Goals as goal

pub loop-port-init : goal.loop-port-init
loop-port-init c = none_both _ _ _ c.in_ok-open_at.ensures c.in_ok-add_border.ensures

pub loop-port-preserved : goal.loop-port-preserved
loop-port-preserved c = none_both _ _ _ c.loop-port.invariant c.in_ok-add_link.ensures

pub returns : goal.returns
returns c =
    none_then c.close.result _ _ _ (none_both _ _ _ (none_both _ _ _ (none_both _ _ _ c.loop-port.invariant
    c.in_ok-add_counts.ensures) c.in_ok-add_held_mark.ensures) c.in_ok-add_arrived_mark.ensures) c.close.ensures
