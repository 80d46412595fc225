use Rattle.std.proofs.Common.{◌*◌, length, subst}
use Rattle.worm_wires.specs.Arrivals.{AreFronts, LinksView, credits_to}
use Rattle.worm_region.specs.State.{NetState}
use Rattle.worm_region.specs.Moves.{AreLinked, Covers, NoCredit}
use Rattle.worm_region.proofs.EachCovered.{credits_cover, credits_linked}
use Rattle.worm_region.proofs.region.Region.credits_in.Goals as goal

pub returns-clause-ports : goal.returns-clause-ports
returns-clause-ports c =
    let set = c.credits_in.result in
    let x = c.args.node in
    subst (λ (s : NetState). Covers (NoCredit s x) (2 * length s.mesh) set) c.self.view_is
    (credits_cover c.self.inside.fabric x set c.self.invariant
    (subst (λ (l : LinksView). AreFronts (credits_to l x) set) c.wires.ensures c.credits_in.ensures))

pub returns-clause-linked : goal.returns-clause-linked
returns-clause-linked c =
    let set = c.credits_in.result in
    let x = c.args.node in
    subst (λ (s : NetState). AreLinked s x set) c.self.view_is
    (credits_linked c.self.inside.fabric x set
    (subst (λ (l : LinksView). AreFronts (credits_to l x) set) c.wires.ensures c.credits_in.ensures))
