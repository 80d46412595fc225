use Rattle.worm_picture.proofs.Names.{none_both}
use Rattle.worm_picture.proofs.counts.add_deliveries.Goals as goal

pub loop-row-preserved : goal.loop-row-preserved
loop-row-preserved c = none_both _ _ _ c.loop-row.invariant c.in_ok-add_delivery.ensures
