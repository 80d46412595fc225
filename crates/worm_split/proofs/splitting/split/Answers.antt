use Rattle.std.proofs.Common.{refl, ap, subst}
use Rattle.worm_region.specs.State.{NetState}
use Rattle.worm_split.specs.Splits.{IsSplitOf}
use Rattle.worm_split.proofs.Opened.{opened, seated}
use Rattle.worm_split.proofs.splitting.split.Goals as goal

pub deal-requires-clause-whole : goal.deal-requires-clause-whole
deal-requires-clause-whole c =
    opened c.args.net c.of-opening.result.value c.args.workers c.in-Ok.rooms _ c.in-Ok.ensures c.of-opening.ensures
    (ap (λ v. v.items) c.of-made.ensures) _ c.into_parts-config.ensures.parts refl refl
    (record { mesh = refl; channels = refl; depth = refl; names = refl })

pub deal-requires-clause-seats : goal.deal-requires-clause-seats
deal-requires-clause-seats c =
    seated c.args.net c.of-opening.result.value c.args.workers c.in-Ok.rooms _ c.in-Ok.ensures c.of-opening.ensures
    (ap (λ v. v.items) c.of-made.ensures)

pub returns-clause-parts : goal.returns-clause-parts
returns-clause-parts c =
    subst (λ (s : NetState). IsSplitOf s c.args.workers c.deal.result.items) c.of-opening.ensures c.deal.ensures
