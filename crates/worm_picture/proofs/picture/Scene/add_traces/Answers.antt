use Rattle.worm_picture.proofs.Names.{none_both, none_then}
use Rattle.worm_picture.proofs.picture.Scene.add_traces.Goals as goal

pub loop-station-init : goal.loop-station-init
loop-station-init c = c.in_ok-open_at.ensures

pub loop-station-preserved : goal.loop-station-preserved
loop-station-preserved c = none_both _ _ _ c.loop-station.invariant c.in_ok-add_way.ensures

pub returns : goal.returns
returns c = none_then c.close.result _ _ _ c.loop-station.invariant c.close.ensures
