use Rattle.std.proofs.Common.{◌<◌, ◌∙◌, arith, subst}
use Rattle.std.specs.Prelude.{◌↔◌, [], false, ◌≡◌}
use Rattle.worm_wires.specs.Arrivals.{AreFronts, LinksView, credits_to}
use Rattle.worm_wires.proofs.Wired.{port_there}
use Rattle.worm_region.specs.State.{NetState, link_at}
use Rattle.worm_region.specs.Moves.{link_out}
use Rattle.worm_region.proofs.Brought.{credit_told}
use Rattle.worm_region.proofs.LinkedPorts.{port_inside}
use Rattle.worm_region.proofs.ListFronts.{front_is}
use Rattle.worm_region.proofs.region.Region.has_credit_back.Goals as goal
use Rattle.worm_region.proofs.region.Region.has_credit_back.Goals.{After-self}

port_in : (c : After-self) → c.args.port < 8
port_in c =
    let few = port_there c.self.inside.fabric.mesh c.args.node c.args.port c.self.invariant.framed.radices
    (port_inside c.args.node c.args.port c.self.view_is c.requires) in
    omega (arith, few)

pub contains-requires : goal.contains-requires
contains-requires c = port_in (goal.at.contains-requires c).After-self

pub returns : goal.returns
returns c =
    let s = c.self.inside.fabric in
    let x = c.args.node in
    let p = c.args.port in
    let told = credit_told s x p c.credits_in.result
    (subst (λ (l : LinksView). AreFronts (credits_to l x) c.credits_in.result) c.wires.ensures c.credits_in.ensures)
    (port_inside x p c.self.view_is c.requires) (port_in (goal.at.returns c).After-self) in
    subst (λ (s : NetState). (c.contains.result ≡ false) ↔ ((link_at s (link_out s x p)).credits ≡ []))
    c.self.view_is (front_is (link_at s (link_out s x p)).credits c.contains.result (c.contains.ensures ∙ told))
