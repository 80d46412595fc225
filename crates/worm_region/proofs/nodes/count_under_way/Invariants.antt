use Rattle.std.proofs.Common.{◌≡◌, take}
use Rattle.worm_region.specs.UnderWay.{accepted_in, taken_in}
use Rattle.worm_region.proofs.nodes.count_under_way.Given as goal

abbrev pub invariant-loop-node : goal.invariant-loop-node
invariant-loop-node l = record {
  accepted : l.accepted ≡ accepted_in (take l.node-index l.nodes);
  taken : l.taken ≡ taken_in (take l.node-index l.nodes);
}
