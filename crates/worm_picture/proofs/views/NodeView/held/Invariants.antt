use Rattle.std.proofs.Common.{◌≡◌, ◌-◌, ◌^◌, min, take}
use Rattle.std.specs.Prelude.{vec_len}
use Rattle.std.specs.List.{sum_by}
use Rattle.worm_picture.proofs.views.NodeView.held.Given as goal

abbrev pub invariant-loop-station : goal.invariant-loop-station
invariant-loop-station l =
    l.held ≡ min (sum_by (λ s. vec_len s.held) (take l.station-index l.stations)) (2 ^ 64 - 1)
