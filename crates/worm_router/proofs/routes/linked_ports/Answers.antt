use Rattle.std.proofs.Common.{ℕ, ◌≡◌, ◌+◌, ◌<◌, Bool, is_some, inl, inr, ap, sym, ◌∙◌, arith}
use Rattle.std.proofs.lemmas.Bool.{cases_eq}
use Rattle.worm_flit.specs.SmallSet.{has, IsPut}
use Rattle.worm_mesh.specs.Address.{neighbour_of}
use Rattle.worm_router.proofs.routes.linked_ports.Goals as goal

-- a set that tells of each number before this one, put right at this one, tells of it too
one_more : (at : ℕ → Bool) (old new n : ℕ) (within : Bool) → n < 8 → IsPut old new n within → within ≡ at n
    → ((k : ℕ) → k < n → has old k ≡ at k) → (k : ℕ) → k < n + 1 → has new k ≡ at k
one_more at old new n within few put is before k below = elim (cases_eq k n) [
  | inl same ↦ ap (has new) same ∙ put.here ∙ is ∙ ap at (sym same)
  | inr other ↦ put.elsewhere k (omega arith) other ∙ before k (omega arith)
]

pub loop-port-preserved : goal.loop-port-preserved
loop-port-preserved c =
    one_more (λ k. is_some (neighbour_of c.args.mesh.now c.args.node k)) _ _ c.loop-port.port c.is_some.result
    c.loop-port-test.true c.put.ensures (c.is_some.ensures ∙ ap is_some c.neighbour.ensures.value)
    c.loop-port.invariant
