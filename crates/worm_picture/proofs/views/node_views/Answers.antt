use Rattle.std.proofs.Common.{rules, ◌≡◌, List, All, map, subst}
use Rattle.std.specs.List.{range_with_len}
use Rattle.std.proofs.lemmas.List.Elements.{All-push}
use Rattle.worm_mesh.specs.Address.{node_count}
use Rattle.worm_mesh.proofs.Digits.{AreLarge-from_radices}
use Rattle.worm_rows.specs.Rules.{at_start}
use Rattle.worm_picture.specs.declared.scene.Flit.{Flit}
use Rattle.worm_picture.specs.declared.views.NodeView.{NodeView}
use Rattle.worm_picture.specs.Scene.{seen_flits}
use Rattle.worm_picture.specs.Nodes.{IsView}
use Rattle.worm_picture.specs.Packets.{tail_in}
use Rattle.worm_picture.proofs.InMesh.{rows_in_mesh}
use Rattle.worm_picture.proofs.Shown.{shows_each_once}
use Rattle.worm_picture.proofs.OneMore.{one_node_more}
use Rattle.worm_picture.proofs.views.node_views.Goals as goal

pub loop-node-preserved : goal.loop-node-preserved
loop-node-preserved c =
    let view = c.in_ok-view.field-0 in
    let Shows : List Flit → NodeView → Type 0 =
    IsView c.args.shape.now c.args.rows.now (tail_in c.args.packets.now) in
    let shown : Shows c.in_ok-flits.flits.items view =
    subst (λ (flits : List Flit). Shows flits view) c.as_slice.ensures.value c.in_ok-view.ensures.shown in
    record {
      nodes = one_node_more c.loop-node.node c.loop-node.views.items c.push.new.self.items view
          c.in_ok-push.ensures.items c.loop-node.invariant.nodes c.in_ok-view.ensures.node;
      each = rw c.in_ok-push.ensures.items (All-push (Shows c.in_ok-flits.flits.items) c.loop-node.views.items view
          c.loop-node.invariant.each shown);
    }

pub returns-clause-once : goal.returns-clause-once
returns-clause-once c = λ report.
    let mesh = c.args.shape.now.mesh in
    let rows = c.args.rows.now in
    let tails = tail_in c.args.packets.now in
    let nodes : map (λ v. v.node) c.loop-node.views.items ≡ range_with_len 0 (node_count mesh) = search rules in
    let each : All (IsView c.args.shape.now rows tails (seen_flits mesh rows)) c.loop-node.views.items =
    search rules in
    shows_each_once c.args.shape.now rows tails (seen_flits mesh rows)
    (rows_in_mesh c.args.shape.now at_start rows (AreLarge-from_radices mesh c.nodes-node-end.ensures.mesh.radices)
    report.0)
    c.loop-node.views.items nodes each
