use Rattle.std.proofs.Common.{rules, ◌≡◌, ◌<◌, length, get_or, max, ap, ◌∙◌}
use Rattle.worm_picture.specs.declared.views.NodeView.{NodeView}
use Rattle.worm_picture.specs.Nodes.{held_in}
use Rattle.worm_picture.proofs.Counted.{most_more}
use Rattle.worm_picture.proofs.views.most_of.Goals as goal

pub loop-view-preserved : goal.loop-view-preserved
loop-view-preserved c =
    let view = c.view-item.result in
    let views = c.args.views.now in
    let within : c.loop-view.view-index < length views = search rules in
    let same : view ≡ get_or views c.loop-view.view-index view = search rules in
    record {
      held = most_more held_in views c.loop-view.view-index view c.loop-view.most.held _ within same
          c.loop-view.invariant.held (c.max.ensures ∙ ap (max c.loop-view.most.held) c.held.ensures);
      arrived = most_more (λ (v : NodeView). v.arrived) views c.loop-view.view-index view c.loop-view.most.arrived _
          within same c.loop-view.invariant.arrived c.max-in-loop-view.ensures;
    }
