use Rattle.std.proofs.Common.{rules, ◌≡◌, ◌<◌, ◌++◌, List, [], length, get_or, ap, ◌∙◌}
use Rattle.worm_waits.specs.declared.waits.Wait.{Wait}
use Rattle.worm_waits.specs.Waits.{told, waits_in}
use Rattle.worm_picture.proofs.Pieces.{one_piece_more}
use Rattle.worm_waits.proofs.scene.Scene.waits_of.Goals as goal

pub loop-view-preserved : goal.loop-view-preserved
loop-view-preserved c =
    let view = c.view-item.result in
    let within : c.loop-view.view-index < length c.args.views.now = search rules in
    let same : view ≡ get_or c.args.views.now c.loop-view.view-index view = search rules in
    one_piece_more (waits_in (told c.args.self.now)) [] c.loop-view.view-index view view c.args.views.now
    c.loop-view.waits.items c.extend_from_slice.new.self.items within same c.loop-view.invariant
    (c.in_ok-extend_from_slice.ensures.items
    ∙ ap (λ (l : List Wait). c.loop-view.waits.items ++ l) (c.as_slice.ensures.value ∙ c.in_ok-more.ensures))
