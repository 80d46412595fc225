use Rattle.std.proofs.Common.{[], refl}
use Rattle.worm_picture.proofs.Names.{adds, none_both, none_then, number, wrote_none}
use Rattle.worm_picture.proofs.counts.add_arrived.Goals as goal

pub returns : goal.returns
returns c =
    let count = wrote_none c.args.svg.now (record { text = c.write.new.self }) _ c.in_ok-write.ensures.bytes
    (number _ _ [] (number _ _ [] (number _ _ [] (number _ _ [] (λ rest. refl))))) in
    none_then c.put.result _ _ _ (none_both _ _ _ count c.in_ok-add_deliveries.ensures)
    (adds c.put.result c.add_deliveries.new.svg c.put.new.self _ [] c.put.ensures (λ rest. refl))
