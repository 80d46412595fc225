use Rattle.worm_picture.specs.Packets.{tail_in}
use Rattle.worm_picture.specs.Picture.{flit_name}
use Rattle.worm_picture.proofs.Names.{one_node}
use Rattle.worm_picture.proofs.picture.Scene.add_node.Goals as goal

pub returns : goal.returns
returns c =
    one_node (flit_name (tail_in c.args.self.now.packets.now)) c.close.result _ _ _ _ c.args.view.now
    c.as_slice.result.now c.as_slice.ensures.value c.in_ok-open_at.ensures c.in_ok-add_channels.ensures c.close.ensures
