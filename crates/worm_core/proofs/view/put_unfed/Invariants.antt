use Rattle.std.proofs.Common.{◌≡◌, ◌++◌, take}
use Rattle.worm_flit.specs.Stamps.{of_lane}
use Rattle.worm_core.specs.LaneView.{at_place}
use Rattle.worm_core.specs.declared.view.Place.TheVariants.{Source}
use Rattle.worm_core.proofs.view.put_unfed.Given as goal

abbrev pub invariant-loop-flit : goal.invariant-loop-flit
invariant-loop-flit l = l.held.items ≡ l.initial.held.items
    ++ at_place Source (of_lane l.lane (take l.flit-index l.flit-items))
