use Rattle.std.proofs.Common.{ℕ, ◌≡◌, ◌%◌, ◌<◌, ◌≤◌, ◌*◌, All, length, slice_index}
use Rattle.worm_route.specs.Route.{port_of}
use Rattle.worm_router.proofs.routes.make_table.Given as goal

abbrev pub invariant-loop-dst : goal.invariant-loop-dst
invariant-loop-dst l = record {
  all : length l.table.items ≡ l.dst;
  each : (k : ℕ) → k < l.dst → slice_index l.table.items k ≡ port_of l.mesh l.node k;
  lowest : l.lowest ≡ l.dst % l.radix;
  ports : All (λ port. port ≤ 2 * length l.mesh) l.table.items;
}
