use Rattle.std.proofs.Common.{ℕ, ◌≡◌, ◌+◌, ◌*◌, ◌<◌, ◌≤◌, List, [], ◌∷◌, ◌++◌, length, slice_index, arith}
use Rattle.std.proofs.lemmas.Grind.{common_steps}
use Rattle.std.proofs.lemmas.List.Elements.{All-push}
use Rattle.worm_route.specs.Route.{port_of}
use Rattle.worm_router.proofs.routes.make_table.Goals as goal

-- one port more is as each one before it
one_more : (mesh : List ℕ) (node dst port : ℕ) (items after : List ℕ) → length items ≡ dst
    → ((k : ℕ) → k < dst → slice_index items k ≡ port_of mesh node k) → port ≡ port_of mesh node dst
    → after ≡ items ++ port ∷ [] → (k : ℕ) → k < dst + 1 → slice_index after k ≡ port_of mesh node k
one_more mesh node dst port items after all each is pushed k below = grind (arith, common_steps, each k)

long_by_one : (dst port : ℕ) (items after : List ℕ) → length items ≡ dst → after ≡ items ++ port ∷ []
    → length after ≡ dst + 1
long_by_one dst port items after all pushed = grind (arith, common_steps)

pub loop-dst-preserved : goal.loop-dst-preserved
loop-dst-preserved c =
    let so_far = c.loop-dst.invariant in
    let found = c.port_by_lowest.ensures in
    let pushed = c.in_ok-push.ensures.items in
    record {
      all = long_by_one _ _ _ _ so_far.all pushed;
      each = one_more _ _ _ _ _ _ so_far.all so_far.each found.value pushed;
      lowest = c.next_digit-lowest.ensures c.loop-dst.dst so_far.lowest;
      ports = rw pushed (All-push (λ port. port ≤ 2 * length c.args.mesh.now) _ _ so_far.ports found.port);
    }
