use Rattle.std.proofs.Common.{◌≡◌, ◌≤◌, ◌<◌, ℕ, None, Some, get_or, length}
use Rattle.worm_mesh.specs.Address.{node_count}
use Rattle.worm_node.specs.NewNodes.{AreFresh}
use Rattle.worm_node.specs.NewNodes.{fresh_node}
use Rattle.worm_node.proofs.fresh.make_nodes.Given as goal

abbrev pub invariant-loop-x : goal.invariant-loop-x
invariant-loop-x l = record {
  all : length l.places.items ≡ node_count l.mesh;
  counted : length l.nodes.items ≡ l.x;
  fresh : AreFresh l.mesh l.channels l.depth l.nodes.items;
  left : (y : ℕ) → l.x ≤ y → y < node_count l.mesh
      → get_or l.places.items y None ≡ Some (fresh_node l.mesh l.channels l.depth y);
}
