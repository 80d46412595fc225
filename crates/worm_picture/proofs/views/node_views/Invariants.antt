use Rattle.std.proofs.Common.{◌≡◌, All, map}
use Rattle.std.specs.List.{range_with_len}
use Rattle.worm_picture.specs.Nodes.{IsView}
use Rattle.worm_picture.specs.Packets.{tail_in}
use Rattle.worm_picture.proofs.views.node_views.Given as goal

abbrev pub invariant-loop-node : goal.invariant-loop-node
invariant-loop-node l = record {
  nodes : map (λ v. v.node) l.views.items ≡ range_with_len 0 l.node;
  each : All (IsView l.shape l.rows (tail_in l.packets) l.flits.items) l.views.items;
}
