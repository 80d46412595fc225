use Rattle.std.proofs.Common.{◌*◌, length, subst}
use Rattle.worm_wires.specs.Arrivals.{AreFronts, LinksView, flits_to}
use Rattle.worm_region.specs.State.{NetState}
use Rattle.worm_region.specs.Moves.{AreLinked, Covers, NoFlit}
use Rattle.worm_region.proofs.EachCovered.{flits_cover, flits_linked}
use Rattle.worm_region.proofs.region.Region.flits_in.Goals as goal

pub returns-clause-ports : goal.returns-clause-ports
returns-clause-ports c =
    let set = c.flits_in.result in
    let x = c.args.node in
    subst (λ (s : NetState). Covers (NoFlit s x) (2 * length s.mesh) set) c.self.view_is
    (flits_cover c.self.inside.fabric x set c.self.invariant
    (subst (λ (l : LinksView). AreFronts (flits_to l x) set) c.wires.ensures c.flits_in.ensures))

pub returns-clause-linked : goal.returns-clause-linked
returns-clause-linked c =
    let set = c.flits_in.result in
    let x = c.args.node in
    subst (λ (s : NetState). AreLinked s x set) c.self.view_is
    (flits_linked c.self.inside.fabric x set
    (subst (λ (l : LinksView). AreFronts (flits_to l x) set) c.wires.ensures c.flits_in.ensures))
