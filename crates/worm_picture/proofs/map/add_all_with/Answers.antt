use Rattle.std.proofs.Common.{rules, ◌≡◌, ◌<◌, List, length, flat_map, get_or, string_bytes, subst}
use Rattle.worm_picture.specs.declared.views.Station.{Station}
use Rattle.worm_picture.specs.Map.{ListsBuffers, buffers_in, if_with}
use Rattle.worm_picture.proofs.Listed.{lists_none, lists_one_more}
use Rattle.worm_picture.proofs.map.add_all_with.Goals as goal

pub loop-view-init : goal.loop-view-init
loop-view-init c = lists_none c.args.mesh.now c.args.room (string_bytes c.args.map.now)

pub loop-view-preserved : goal.loop-view-preserved
loop-view-preserved c =
    let view = c.view-item.result in
    let within : c.loop-view.view-index < length c.args.views.now = search rules in
    let same : view ≡ get_or c.args.views.now c.loop-view.view-index view = search rules in
    lists_one_more c.args.mesh.now (buffers_in c.args.count) c.args.room c.loop-view.left _ c.loop-view.view-index view
    view c.args.views.now (string_bytes c.args.map.now) (string_bytes c.loop-view.map)
    (string_bytes c.add_buffers.new.map) within same c.loop-view.invariant
    (subst (λ (l : List Station). ListsBuffers c.args.mesh.now c.loop-view.left (flat_map (if_with c.args.count) l)
    (string_bytes c.loop-view.map) (string_bytes c.add_buffers.new.map) c.in_ok-left.left) c.as_slice.ensures.value
    c.in_ok-left.ensures)
