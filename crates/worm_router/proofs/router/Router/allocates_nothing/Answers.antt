use Rattle.std.proofs.Common.{sym, ◌∙◌}
use Rattle.worm_router.proofs.NothingWaits.{idle_allocate}
use Rattle.worm_router.proofs.Demanded.{none_waits, grants_none_as}
use Rattle.worm_router.proofs.router.Router.allocates_nothing.Goals as goal

pub returns-then-is_empty-clause-asked : goal.returns-then-is_empty-clause-asked
returns-then-is_empty-clause-asked c = λ _.
    none_waits c.args.self.now c.waiting.result c.waiting.ensures (sym c.is_empty.ensures ∙ c.if-is_empty.true)

pub returns-then-is_empty-clause-after : goal.returns-then-is_empty-clause-after
returns-then-is_empty-clause-after c = λ _.
    idle_allocate c.args.self.now
    (none_waits c.args.self.now c.waiting.result c.waiting.ensures (sym c.is_empty.ensures ∙ c.if-is_empty.true))

pub returns-else-is_empty-clause-after : goal.returns-else-is_empty-clause-after
returns-else-is_empty-clause-after c = λ yes.
    idle_allocate c.args.self.now
    (grants_none_as _ c.args.self.now _ c.self.view_is c.self.invariant.demand (c.grants_nothing.ensures yes))
