use Rattle.std.proofs.Common.{◌≡◌, ◌++◌, take}
use Rattle.worm_flit.specs.Stamps.{of_lane, on_channel}
use Rattle.worm_region.specs.Moves.{link_out}
use Rattle.worm_region.specs.State.{link_at}
use Rattle.worm_core.specs.LaneView.{at_place}
use Rattle.worm_core.specs.declared.view.Place.TheVariants.{Link}
use Rattle.worm_core.proofs.view.put_line.Given as goal

abbrev pub invariant-loop-i : goal.invariant-loop-i
invariant-loop-i l =
    l.held.items ≡ l.initial.held.items ++ at_place (Link l.node l.port l.vc)
    (of_lane l.lane (on_channel l.vc (take l.i (link_at l.fabric (link_out l.fabric l.node l.port)).flits)))
