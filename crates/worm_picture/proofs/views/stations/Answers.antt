use Rattle.std.proofs.Common.{rules, ◌<◌, length}
use Rattle.std.proofs.lemmas.List.Elements.{All-push}
use Rattle.worm_picture.specs.Nodes.{IsStation}
use Rattle.worm_picture.specs.Packets.{tail_in}
use Rattle.worm_picture.proofs.OneMore.{one_station_more}
use Rattle.worm_picture.proofs.views.stations.Goals as goal

pub loop-spot-preserved : goal.loop-spot-preserved
loop-spot-preserved c =
    let stations = c.loop-spot.stations.items in
    let station = c.in_ok-station_at.field-0 in
    let within : c.loop-spot.spot-index < length c.args.spots.now = search rules in
    record {
      spots = one_station_more c.loop-spot.spot-index _ c.args.spots.now stations c.push.new.self.items station
          c.in_ok-push.ensures.items c.loop-spot.invariant.spots within c.in_ok-station_at.ensures.spot;
      each = rw c.in_ok-push.ensures.items (All-push
          (IsStation (tail_in c.args.packets.now) c.args.flits.now) stations station c.loop-spot.invariant.each
          c.in_ok-station_at.ensures.flits);
    }
