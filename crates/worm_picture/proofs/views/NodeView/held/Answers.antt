use Rattle.std.proofs.Common.{rules, ◌≡◌, ◌<◌, ◌-◌, ◌^◌, length, get_or}
use Rattle.std.specs.Prelude.{vec_len}
use Rattle.worm_picture.specs.declared.views.Station.{Station}
use Rattle.worm_picture.proofs.Counted.{sum_more}
use Rattle.worm_picture.proofs.views.NodeView.held.Goals as goal

pub loop-station-preserved : goal.loop-station-preserved
loop-station-preserved c =
    let station = c.station-item.result in
    let stations = c.as_slice-stations.result.now in
    let within : c.loop-station.station-index < length stations = search rules in
    let same : station ≡ get_or stations c.loop-station.station-index station = search rules in
    sum_more (λ (s : Station). vec_len s.held) stations c.loop-station.station-index station (2 ^ 64 - 1)
    c.loop-station.held c.saturating_add-held.result within same c.loop-station.invariant
    (rw c.len.ensures at c.saturating_add-held.ensures)
