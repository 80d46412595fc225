use Rattle.std.proofs.Common.{arith}
use Rattle.std.proofs.Common.{map, ap}
use Rattle.worm_report.specs.declared.row.Row.TheVariants.{Delivered}
use Rattle.worm_report.specs.Seen.{seen}
use Rattle.worm_report.proofs.Written.{same_rows}
use Rattle.worm_report.proofs.Written.{below_none, below_then, below_stop}
use Rattle.worm_report.proofs.report.put_delivered.Goals as goal

pub loop-node-init : goal.loop-node-init
loop-node-init g c = below_none (λ node. map (λ flit. Delivered node flit) ((seen c.args.net.now).delivered node))

pub returns-in_err-put_arrived : goal.returns-in_err-put_arrived
returns-in_err-put_arrived g c = below_stop
    (λ node. map (λ flit. Delivered node flit) ((seen c.args.net.now).delivered node)) c.loop-node.node
    (seen c.args.net.now).nodes (omega (
      arith,
      c.loop-node-test.true,
      c.nodes-node-end.ensures.value,
    )) c.from_residual.ensures.1 c.loop-node.invariant
    (same_rows _ _ (ap (map (λ flit. Delivered c.loop-node.node flit)) c.delivered.ensures)
    c.in_err-put_arrived.ensures)

pub loop-node-preserved : goal.loop-node-preserved
loop-node-preserved g c = below_then (λ node. map (λ flit. Delivered node flit) ((seen c.args.net.now).delivered node))
    c.loop-node.node c.loop-node.invariant
    (same_rows _ _ (ap (map (λ flit. Delivered c.loop-node.node flit)) c.delivered.ensures) c.in_ok-put_arrived.ensures)
