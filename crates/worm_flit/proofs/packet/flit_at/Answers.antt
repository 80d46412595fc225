use Rattle.worm_flit.proofs.Packets.{packet_flits-at}
use Rattle.worm_flit.proofs.packet.flit_at.Goals as goal

pub returns : goal.returns
returns c =
    let p = c.args.packet.now in
    rw (
      c.lane.ensures,
      c.lane-2.ensures,
      c.kind_at.ensures,
      c.words-words.ensures.value,
      c.from.ensures,
    ) (packet_flits-at p.lane c.args.number p.words c.args.i c.requires)
