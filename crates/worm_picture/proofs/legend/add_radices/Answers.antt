use Rattle.std.proofs.Common.{refl}
use Rattle.worm_picture.proofs.Names.{last_number, none_both, wrote_none}
use Rattle.worm_picture.proofs.legend.add_radices.Goals as goal

pub loop-dim-init : goal.loop-dim-init
loop-dim-init c = wrote_none c.args.svg.now c.put.new.self _ c.in_ok-put.ensures (λ rest. refl)

pub loop-dim-preserved : goal.loop-dim-preserved
loop-dim-preserved c = none_both _ _ _ c.loop-dim.invariant
    (wrote_none c.loop-dim.svg (record { text = c.write.new.self }) _ c.in_ok-write.ensures.bytes (last_number _))
