use Rattle.worm_picture.specs.Packets.{tail_in}
use Rattle.worm_picture.specs.Picture.{flit_name}
use Rattle.worm_picture.proofs.Names.{one_channel}
use Rattle.worm_picture.proofs.picture.Scene.add_channel.Goals as goal

pub returns : goal.returns
returns c =
    one_channel (flit_name (tail_in c.args.self.now.packets.now)) c.close.result _ _ _ _ _ _ c.args.station.now
    c.as_slice.result.now c.as_slice-2.result.now c.as_slice.ensures.value c.as_slice-2.ensures.value
    c.in_ok-open_frame.ensures c.in_ok-add_buffer.ensures c.in_ok-add_row.ensures c.in_ok-add_row-2.ensures
    c.close.ensures
