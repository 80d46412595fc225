use Rattle.std.proofs.Common.{◌-◌}
use Rattle.worm_mesh.specs.Address.{node_count}
use Rattle.worm_node.proofs.MadeGroups.{AreMadeBelow}
use Rattle.worm_node.proofs.fresh.make_group.Given as goal

abbrev pub invariant-loop-node : goal.invariant-loop-node
invariant-loop-node l =
    AreMadeBelow l.mesh l.channels l.depth l.group l.node (node_count l.mesh) l.places.items

abbrev pub decreases-loop-node : goal.decreases-loop-node
decreases-loop-node l = l.count - l.node
