use Rattle.std.proofs.Common.{◌-◌, ◌++◌, ap, refl, ◌∙◌}
use Rattle.std.specs.Prelude.{flat_map}
use Rattle.std.specs.List.{range_with_len}
use Rattle.worm_region.specs.Moves.{link_out}
use Rattle.worm_region.specs.State.{link_at}
use Rattle.worm_core.specs.LaneView.{link_held}
use Rattle.worm_core.proofs.ReadPlaces.{link_read}
use Rattle.worm_core.proofs.ViewLists.{added, channel-more}
use Rattle.worm_core.proofs.view.put_lines.Goals as goal

pub loop-vc-preserved : goal.loop-vc-preserved
loop-vc-preserved c =
    let s = c.args.fabric.now in
    let held = link_held s c.args.lane c.args.node c.args.port in
    let start = c.channels_of-range.result.start in
    let vc = c.loop-vc.vc in
    let read = link_read s c.args.lane c.args.node c.args.port vc
    (link_at s (link_out s c.args.node c.args.port)) c.requires.linked refl in
    added c.args.held.now.items c.loop-vc.held.items (held vc) (flat_map held (range_with_len start (vc - start))) _ _
    (c.in_ok-put_line.ensures ∙ ap (λ hs. c.loop-vc.held.items ++ hs) read) c.loop-vc.invariant
    (channel-more held start vc c.loop-vc.auto.vc)
