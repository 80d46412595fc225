use Rattle.std.proofs.Common.{[], refl}
use Rattle.worm_picture.proofs.Names.{none_both, number, wrote_none}
use Rattle.worm_picture.proofs.picture.Scene.add_names.Goals as goal

pub loop-slice-preserved : goal.loop-slice-preserved
loop-slice-preserved c =
    let named = wrote_none c.open_at.new.self (record { text = c.write.new.self }) _ c.in_ok-write.ensures.bytes
    (number _ _ [] (λ rest. refl)) in
    none_both _ _ _ c.loop-slice.invariant
    (none_both _ _ _ (none_both _ _ _ c.in_ok-open_at.ensures named) c.in_ok-close.ensures)
