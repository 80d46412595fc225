use Rattle.std.proofs.Common.{◌≡◌, ◌+◌, subst}
use Rattle.worm_region.specs.State.{NetState}
use Rattle.worm_region.specs.UnderWay.{accepted_in, taken_in}
use Rattle.worm_core.proofs.TotalsUnderWay.{none_under_way}
use Rattle.worm_core.proofs.net.Net.is_drained.Goals as goal

pub returns-in-Some : goal.returns-in-Some
returns-in-Some c =
    none_under_way c.args.self.now c.in-Some.under_way c.fabric.ensures.sound
    (subst (λ (s : NetState). accepted_in s.nodes ≡ taken_in s.nodes + c.in-Some.under_way) c.fabric.ensures.same
    c.in-Some.ensures)
