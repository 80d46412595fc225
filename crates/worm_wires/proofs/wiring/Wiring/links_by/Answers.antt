use Rattle.std.proofs.Common.{ap, subst, ◌∙◌}
use Rattle.worm_mesh.specs.Address.{AreRadices}
use Rattle.worm_wires.specs.Wiring.{kept_number, out_link}
use Rattle.worm_wires.proofs.Wired.{joined}
use Rattle.worm_wires.proofs.wiring.Wiring.links_by.Goals as goal

pub returns : goal.returns
returns c =
    let now = c.args.self.now in
    let radices = subst AreRadices c.self.view_is c.nodes-nodes.ensures.mesh in
    let into = c.kept-into.ensures.value ∙ ap
    (λ p. kept_number (out_link now c.beyond-beyond.result p)) c.entered-entered.ensures.value in
    let links = joined now c.args.node c.args.port c.beyond-beyond.result c.args.out c.kept-into.result radices
    c.beyond-beyond.ensures c.requires.out into in
    rw c.entered-entered.ensures.value links
