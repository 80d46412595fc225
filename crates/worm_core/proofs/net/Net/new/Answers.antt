use Rattle.worm_region.proofs.NewNet.{fresh_stands}
use Rattle.worm_core.proofs.net.Net.new.Goals as goal

pub returns-clause-empty : goal.returns-clause-empty
returns-clause-empty c =
    rw (c.of.ensures)
    (fresh_stands _ _ _ _ c.in_ok-region.region c.in_ok-region.ensures.fresh)
