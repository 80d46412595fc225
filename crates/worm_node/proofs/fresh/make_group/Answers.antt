use Rattle.std.proofs.Common.{◌≡◌, ◌+◌, List, Option, Some, arith, ap, subst, sym, ◌∙◌}
use Rattle.std.proofs.Common.{set}
use Rattle.worm_mesh.specs.Address.{node_count}
use Rattle.worm_node.specs.NewNodes.{fresh_node}
use Rattle.worm_node.specs.declared.node.Node.{Node}
use Rattle.worm_node.proofs.MadeGroups.{AreMadeBelow, done, next}
use Rattle.worm_node.proofs.fresh.make_group.Goals as goal

pub loop-node-init : goal.loop-node-init
loop-node-init c =
    let group = c.requires.group in
    record {
      counted = c.requires.places;
      remainder = omega (arith, group);
      before = c.requires.made;
      here = λ x x_in same below. absurd (omega (arith, group, same, below));
    }

pub put-requires : goal.put-requires
put-requires c =
    let counted = c.loop-node.invariant.counted in
    omega (arith, counted)

pub loop-node-preserved : goal.loop-node-preserved
loop-node-preserved c =
    let mesh = c.args.mesh.now in
    let channels = c.args.channels.now in
    let depth = c.args.depth in
    let node = c.loop-node.node in
    let items : c.put.new.places.items ≡ set c.loop-node.places.items node (Some (fresh_node mesh channels depth node))
    = c.put.ensures ∙ ap (λ (n : Node). set c.loop-node.places.items node (Some n)) c.in_ok-made.ensures in
    subst (λ (ps : List (Option Node)). AreMadeBelow mesh channels depth c.args.group (node + 16) (node_count mesh) ps)
    (sym items)
    (next mesh channels depth c.args.group node (node_count mesh) c.loop-node.places.items c.loop-node.invariant
    (omega arith))

pub returns-clause-places : goal.returns-clause-places
returns-clause-places c = c.loop-node.invariant.counted

pub returns-clause-made : goal.returns-clause-made
returns-clause-made c =
    done c.args.mesh.now c.args.channels.now c.args.depth c.args.group c.loop-node.node (node_count c.args.mesh.now)
    c.loop-node.places.items c.loop-node.invariant (omega arith)
