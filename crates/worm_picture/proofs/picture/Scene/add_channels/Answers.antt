use Rattle.std.proofs.Common.{rules, ◌≡◌, ◌<◌, length, get_or}
use Rattle.worm_picture.specs.Nodes.{station_flits}
use Rattle.worm_picture.specs.Packets.{tail_in}
use Rattle.worm_picture.specs.Picture.{flit_name}
use Rattle.worm_picture.proofs.Names.{one_part_more}
use Rattle.worm_picture.proofs.picture.Scene.add_channels.Goals as goal

pub loop-station-preserved : goal.loop-station-preserved
loop-station-preserved c =
    let station = c.station-item.result in
    let within : c.loop-station.station-index < length c.args.stations.now = search rules in
    let same : station ≡ get_or c.args.stations.now c.loop-station.station-index station = search rules in
    one_part_more (flit_name (tail_in c.args.self.now.packets.now)) station_flits
    c.loop-station.station-index station station c.args.stations.now c.args.svg.now
    c.loop-station.svg c.add_channel.new.svg within same c.loop-station.invariant c.in_ok-add_channel.ensures
