use Rattle.std.proofs.Common.{◌≡◌, All, map, take}
use Rattle.worm_picture.specs.Nodes.{IsStation}
use Rattle.worm_picture.specs.Packets.{tail_in}
use Rattle.worm_picture.proofs.views.stations.Given as goal

abbrev pub invariant-loop-spot : goal.invariant-loop-spot
invariant-loop-spot l = record {
  spots : map (λ s. s.spot) l.stations.items ≡ take l.spot-index l.spots;
  each : All (IsStation (tail_in l.packets) l.flits) l.stations.items;
}
