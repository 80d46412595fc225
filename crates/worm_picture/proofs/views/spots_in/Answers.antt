use Rattle.std.proofs.Common.{◌∙◌}
use Rattle.worm_picture.proofs.OneMore.{one_port_more}
use Rattle.worm_picture.proofs.views.spots_in.Goals as goal

pub loop-port-preserved : goal.loop-port-preserved
loop-port-preserved c =
    one_port_more c.args.node c.loop-port.port c.args.vcs c.loop-port.spots.items c.as_slice.result.now
    c.extend_from_slice.new.self.items
    c.in_ok-extend_from_slice.ensures.items c.loop-port.invariant (c.as_slice.ensures.value ∙ c.in_ok-more.ensures)
