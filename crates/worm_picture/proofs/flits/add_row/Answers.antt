use Rattle.std.proofs.Common.{rules, ◌<◌, length, ap}
use Rattle.worm_picture.specs.Packets.{tail_in}
use Rattle.worm_picture.proofs.Names.{one_flit_more}
use Rattle.worm_picture.proofs.flits.add_row.Goals as goal

pub loop-flit-preserved : goal.loop-flit-preserved
loop-flit-preserved c =
    let within : c.loop-flit.flit-index < length c.args.flits.now = search rules in
    one_flit_more (tail_in c.args.packets.now) _ c.loop-flit.flit-index _ c.args.flits.now c.args.svg.now
    c.loop-flit.svg c.add_flit.new.svg within (ap (λ p. p.last) c.get-packet.ensures) c.loop-flit.invariant
    c.in_ok-add_flit.ensures
