use Rattle.std.proofs.Common.{◌<◌, ◌-◌, ◌++◌, sum, arith, ap, sym, subst, ◌∙◌}
use Rattle.std.specs.Prelude.{flat_map}
use Rattle.std.specs.List.{range_with_len}
use Rattle.worm_flit.specs.Stamps.{of_lane}
use Rattle.worm_router.specs.Router.{IsPlace, input_at}
use Rattle.worm_core.specs.LaneView.{at_place, buffer_held}
use Rattle.worm_node.specs.declared.node.Node.{Node}
use Rattle.worm_core.specs.declared.view.Place.TheVariants.{Buffer}
use Rattle.worm_core.proofs.ReadPlaces.{framed_place, buffer_read}
use Rattle.worm_core.proofs.ViewLists.{added, channel-more, class_within}
use Rattle.worm_core.proofs.view.put_buffers.Goals as goal

pub put_channel-requires : goal.put_channel-requires
put_channel-requires c =
    let s = c.args.fabric.now in
    let within : c.loop-vc.vc < sum s.channels =
    omega (arith, class_within s.channels c.args.lane.class c.requires.class, c.channels_of-range.ensures.end) in
    let place = framed_place s c.args.node c.args.port c.loop-vc.vc c.requires.framed c.requires.node c.requires.port
    within in
    subst (λ (n : Node). IsPlace n.router c.args.port c.loop-vc.vc) (sym c.node.ensures) place.place

pub loop-vc-preserved : goal.loop-vc-preserved
loop-vc-preserved c =
    let s = c.args.fabric.now in
    let lane = c.args.lane in
    let vc = c.loop-vc.vc in
    let start = c.channels_of-range.result.start in
    let held = buffer_held s lane c.args.node c.args.port in
    let within : vc < sum s.channels = omega (
      arith,
      class_within s.channels lane.class c.requires.class,
      c.channels_of-range.ensures.end,
    ) in
    let place = framed_place s c.args.node c.args.port vc c.requires.framed c.requires.node c.requires.port within in
    let read = ap (λ (n : Node). at_place (Buffer c.args.node c.args.port vc)
    (of_lane lane (input_at n.router c.args.port vc).buffer)) c.node.ensures
    ∙ sym (buffer_read s lane c.args.node c.args.port vc place) in
    added c.args.held.now.items c.loop-vc.held.items (held vc) (flat_map held (range_with_len start (vc - start))) _ _
    (c.in_ok-put_channel.ensures ∙ ap (λ hs. c.loop-vc.held.items ++ hs) read) c.loop-vc.invariant
    (channel-more held start vc c.loop-vc.auto.vc)
