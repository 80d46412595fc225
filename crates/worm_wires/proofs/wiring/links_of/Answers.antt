use Rattle.std.proofs.Common.{arith, length-set}
use Rattle.worm_wires.specs.Wiring.{kept_number, out_link}
use Rattle.worm_wires.proofs.Wired.{row_more}
use Rattle.worm_wires.proofs.wiring.links_of.Goals as goal

pub loop-port-preserved : goal.loop-port-preserved
loop-port-preserved c =
    let inv = c.loop-port.invariant in
    let more = row_more (λ p. kept_number (out_link c.args.mesh.now c.args.node p)) 0 c.loop-port.outs c.loop-port.port
    c.number_out.result (omega (arith, inv.all)) c.number_out.ensures inv.linked in
    record { all = rw length-set inv.all; linked = rw c.from.ensures more }
