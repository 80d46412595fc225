use Rattle.std.proofs.Common.{◌*◌, length, ℕ, arith, ap, ◌∙◌}
use Rattle.worm_router.specs.Routes.{RoutesView}
use Rattle.worm_router.proofs.routes.Routes.terminal.Goals as goal

pub returns : goal.returns
returns c = record {
  value = ap (λ (n : ℕ). 2 * n) (c.dims.ensures.value ∙ ap (λ (r : RoutesView). length r.mesh) c.self.view_is);
  bound = omega (arith, c.dims.ensures.high);
}
