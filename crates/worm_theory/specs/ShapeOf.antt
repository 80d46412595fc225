-- The shape of a network on a mesh, with channels handed out to classes.
use Rattle.std.specs.Prelude.{ℕ, ◌*◌, List, length, sum}
use Rattle.worm_flit.specs.Channels.{first_channel, owner_of}
use Rattle.worm_mesh.specs.Address.{node_count, neighbour_of, opposite_of}
use Rattle.worm_route.specs.Route.{port_of, hops_of}
use Rattle.worm_theory.specs.Shape.{Shape}

-- of the radices, the channel counts of the classes, and the depth
abbrev pub shape_of : List ℕ → List ℕ → ℕ → Shape
shape_of ks counts depth = record {
  nodes = node_count ks;
  classes = length counts;
  vcs = sum counts;
  depth = depth;
  terminal = 2 * length ks;
  neighbour = neighbour_of ks;
  opposite = opposite_of;
  next_port = port_of ks;
  hops = hops_of ks;
  owner = owner_of counts;
  first = first_channel counts;
}
