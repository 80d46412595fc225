use Rattle.std.proofs.Common.{◌<◌, ◌∙◌, arith, subst}
use Rattle.std.specs.Prelude.{◌↔◌, [], false, ◌≡◌}
use Rattle.worm_wires.specs.Arrivals.{AreFronts, LinksView, flits_to}
use Rattle.worm_wires.proofs.Wired.{port_there}
use Rattle.worm_region.specs.State.{NetState, link_at}
use Rattle.worm_region.specs.Moves.{link_into}
use Rattle.worm_region.proofs.Brought.{flit_told}
use Rattle.worm_region.proofs.LinkedPorts.{port_inside}
use Rattle.worm_region.proofs.ListFronts.{front_is}
use Rattle.worm_region.proofs.region.Region.has_flit_in.Goals as goal
use Rattle.worm_region.proofs.region.Region.has_flit_in.Goals.{After-self}

port_in : (c : After-self) → c.args.port < 8
port_in c =
    let few = port_there c.self.inside.fabric.mesh c.args.node c.args.port c.self.invariant.framed.radices
    (port_inside c.args.node c.args.port c.self.view_is c.requires) in
    omega (arith, few)

pub contains-requires : goal.contains-requires
contains-requires c = port_in (goal.at.contains-requires c).After-self

pub returns : goal.returns
returns c =
    let s = c.self.inside.fabric in
    let x = c.args.node in
    let p = c.args.port in
    let told = flit_told s x p c.flits_in.result
    (subst (λ (l : LinksView). AreFronts (flits_to l x) c.flits_in.result) c.wires.ensures c.flits_in.ensures)
    (port_inside x p c.self.view_is c.requires) (port_in (goal.at.returns c).After-self) in
    subst (λ (s : NetState). (c.contains.result ≡ false) ↔ ((link_at s (link_into s x p)).flits ≡ []))
    c.self.view_is (front_is (link_at s (link_into s x p)).flits c.contains.result (c.contains.ensures ∙ told))
