use Rattle.std.proofs.Common.{◌≡◌, ◌++◌, ◌-◌}
use Rattle.std.specs.Prelude.{flat_map}
use Rattle.std.specs.List.{range_with_len}
use Rattle.worm_core.specs.LaneView.{buffer_held}
use Rattle.worm_core.proofs.view.put_buffers.Given as goal

abbrev pub invariant-loop-vc : goal.invariant-loop-vc
invariant-loop-vc l =
    l.held.items ≡ l.initial.held.items ++ flat_map (buffer_held l.fabric l.lane l.node l.port)
    (range_with_len l.initial.vc (l.vc - l.initial.vc))
