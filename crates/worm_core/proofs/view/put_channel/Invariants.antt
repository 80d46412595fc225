use Rattle.std.proofs.Common.{◌≡◌, ◌++◌, ◌-◌, length, take}
use Rattle.worm_flit.specs.Stamps.{of_lane}
use Rattle.worm_router.specs.Router.{input_at}
use Rattle.worm_core.specs.LaneView.{at_place}
use Rattle.worm_core.specs.declared.view.Place.TheVariants.{Buffer}
use Rattle.worm_core.proofs.view.put_channel.Given as goal

abbrev pub invariant-loop-flit : goal.invariant-loop-flit
invariant-loop-flit l =
    l.held.items ≡ l.initial.held.items ++ at_place (Buffer l.node l.port l.vc)
    (of_lane l.lane (take l.i (input_at l.router l.port l.vc).buffer))

abbrev pub decreases-loop-flit : goal.decreases-loop-flit
decreases-loop-flit l = length (input_at l.router l.port l.vc).buffer - l.i
