use Rattle.std.proofs.Common.{◌≡◌, length}
use Rattle.worm_mesh.specs.Address.{node_count}
use Rattle.worm_node.specs.NewNodes.{AreMade}
use Rattle.worm_node.proofs.fresh.make_groups.Given as goal

abbrev pub invariant-loop-group : goal.invariant-loop-group
invariant-loop-group l =
    (length l.places.items ≡ node_count l.mesh) × AreMade l.mesh l.channels l.depth l.group l.places.items
