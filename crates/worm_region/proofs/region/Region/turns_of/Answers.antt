use Rattle.std.proofs.Common.{None, Some, arith, refl}
use Rattle.std.proofs.lemmas.Result.{err_from_is_err_and}
use Rattle.worm_mesh.specs.Address.{node_count}
use Rattle.worm_region.specs.Replies.{Attempts}
use Rattle.worm_region.specs.Turns.{all_nodes, NodeTurnBy}
use Rattle.worm_region.proofs.Passages.{loop_more, loop_cut, does_for}
use Rattle.worm_region.proofs.ReachedBySteps.{whole_after}
use Rattle.worm_region.proofs.region.Region.turns_of.Goals as goal

pub returns-in_err-node_turn : goal.returns-in_err-node_turn
returns-in_err-node_turn c =
    let p = err_from_is_err_and c.from_residual.result c.from_residual.ensures.1 in
    rw (p.1, p.2) (does_for all_nodes (NodeTurnBy Attempts c.args.entries.now)
    (node_count c.args.self.now.mesh) c.nodes-node-end.result c.args.self.now c.node_turn.new.self
    (Some c.in_err-node_turn.field-0.0) refl (omega arith)
    (loop_cut (NodeTurnBy Attempts c.args.entries.now) c.loop-node.node c.nodes-node-end.result c.args.self.now
    c.loop-node.self c.node_turn.new.self c.in_err-node_turn.field-0.0 c.loop-node-test.true c.loop-node.invariant
    c.in_err-node_turn.ensures))

pub loop-node-preserved : goal.loop-node-preserved
loop-node-preserved c =
    loop_more (NodeTurnBy Attempts c.args.entries.now) c.loop-node.node c.args.self.now c.loop-node.self
    c.node_turn.new.self None c.loop-node.invariant c.in_ok-node_turn.ensures

pub returns : goal.returns
returns c =
    does_for all_nodes (NodeTurnBy Attempts c.args.entries.now)
    (node_count c.args.self.now.mesh) c.loop-node.node c.args.self.now c.loop-node.self None refl
    (omega arith) c.loop-node.invariant

pub node_turn-requires-clause-whole : goal.node_turn-requires-clause-whole
node_turn-requires-clause-whole c =
    whole_after c.args.self.now c.loop-node.self c.loop-node.invariant.reaches.config c.requires.whole
