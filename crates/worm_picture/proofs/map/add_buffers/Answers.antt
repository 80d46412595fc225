use Rattle.std.proofs.Common.{rules, ◌≡◌, ◌<◌, length, get_or, string_bytes}
use Rattle.worm_picture.specs.Map.{if_with}
use Rattle.worm_picture.proofs.Listed.{lists_none, lists_one_more}
use Rattle.worm_picture.proofs.map.add_buffers.Goals as goal

pub loop-station-init : goal.loop-station-init
loop-station-init c = lists_none c.args.mesh.now c.args.room (string_bytes c.args.map.now)

pub loop-station-preserved : goal.loop-station-preserved
loop-station-preserved c =
    let station = c.station-item.result in
    let within : c.loop-station.station-index < length c.args.stations.now = search rules in
    let same : station ≡ get_or c.args.stations.now c.loop-station.station-index station = search rules in
    lists_one_more c.args.mesh.now (if_with c.args.count) c.args.room c.loop-station.left _
    c.loop-station.station-index station station c.args.stations.now (string_bytes c.args.map.now)
    (string_bytes c.loop-station.map) (string_bytes c.add_if_with.new.map) within same
    c.loop-station.invariant c.in_ok-left.ensures
