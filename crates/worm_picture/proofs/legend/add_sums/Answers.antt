use Rattle.std.proofs.Common.{[], refl}
use Rattle.worm_picture.proofs.Names.{adds, none_both, none_then, wrote_none}
use Rattle.worm_picture.proofs.legend.add_sums.Goals as goal

pub loop-row-init : goal.loop-row-init
loop-row-init c = wrote_none c.args.svg.now c.put.new.self _ c.in_ok-put.ensures (λ rest. refl)

pub loop-row-preserved : goal.loop-row-preserved
loop-row-preserved c = none_both _ _ _ c.loop-row.invariant c.in_ok-add_total.ensures

pub returns : goal.returns
returns c =
    none_then c.put-2.result _ _ _ c.loop-row.invariant
    (adds c.put-2.result c.loop-row.svg c.put-2.new.self _ [] c.put-2.ensures (λ rest. refl))
