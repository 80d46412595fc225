use Rattle.std.proofs.Common.{ℕ, ◌≡◌, ◌<◌, is_some}
use Rattle.worm_flit.specs.SmallSet.{has}
use Rattle.worm_mesh.specs.Address.{neighbour_of}
use Rattle.worm_router.proofs.routes.linked_ports.Given as goal

abbrev pub invariant-loop-port : goal.invariant-loop-port
invariant-loop-port l =
    (k : ℕ) → k < l.port → has l.linked k ≡ is_some (neighbour_of l.mesh l.node k)
