-- Where a route goes on from a node (Dally and Towles, chapter 8).
use Rattle.std.specs.Prelude.{ℕ, ◌≡◌, ◌≢◌, List}
use Rattle.worm_mesh.specs.Address.{Joins, opposite_of}
use Rattle.worm_mesh.specs.declared.mesh.LinkEnds.{LinkEnds}
use Rattle.worm_route.specs.Route.{port_of}

-- the link by which a route to dst leaves node x, which is not dst
pub record IsNextLink (mesh : List ℕ) (x dst : ℕ) (link : LinkEnds) : Type 0 where
  pub further : x ≢ dst
  pub from_here : link.from ≡ x
  pub by_port : link.out_port ≡ port_of mesh x dst
  pub joined : Joins mesh x link.out_port link.to
  pub entered : link.in_port ≡ opposite_of link.out_port
