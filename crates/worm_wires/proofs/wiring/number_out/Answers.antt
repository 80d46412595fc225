use Rattle.std.proofs.Common.{ap, ◌∙◌, sym}
use Rattle.worm_wires.specs.Wiring.{kept_number}
use Rattle.worm_wires.proofs.Wired.{out_numbered}
use Rattle.worm_wires.proofs.wiring.number_out.Goals as goal

pub returns-in-Some : goal.returns-in-Some
returns-in-Some c =
    let same = out_numbered c.args.mesh.now c.args.node c.args.port c.requires c.link_number.result
    c.link_number.ensures.value in
    ap kept_number (sym c.in-Some.is ∙ same)

pub returns-in-None : goal.returns-in-None
returns-in-None c =
    let same = out_numbered c.args.mesh.now c.args.node c.args.port c.requires c.link_number.result
    c.link_number.ensures.value in
    ap kept_number (sym c.in-None.is ∙ same)
