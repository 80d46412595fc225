use Rattle.std.proofs.Common.{rules, arith, length-set}
use Rattle.worm_wires.proofs.Wired.{wired_more}
use Rattle.worm_wires.proofs.wiring.Wiring.new.Goals as goal

pub loop-node-preserved : goal.loop-node-preserved
loop-node-preserved c =
    let inv = c.loop-node.invariant in
    record {
      all = rw length-set inv.all;
      wired = rw c.from.ensures (wired_more c.args.mesh c.loop-node.nodes c.loop-node.node c.links_of.result
          (omega (arith, inv.all)) c.links_of.ensures inv.wired);
    }

pub invariant_of-result : goal.invariant_of-result
invariant_of-result c = search rules
