use Rattle.std.proofs.Common.{refl}
use Rattle.worm_picture.proofs.Names.{none_both, none_then, wrote_none}
use Rattle.worm_picture.proofs.legend.add_legend.Goals as goal

pub returns-then-dims-lt3 : goal.returns-then-dims-lt3
returns-then-dims-lt3 c =
    let notes = wrote_none c.open_scaled.new.self c.put.new.self _ c.in_ok-put.ensures (λ rest. refl) in
    none_then c.close.result _ _ _ (none_both _ _ _ c.in_ok-open_scaled.ensures notes) c.close.ensures

pub returns : goal.returns
returns c =
    let notes = wrote_none c.open_scaled.new.self c.put.new.self _ c.in_ok-put.ensures (λ rest. refl) in
    let third = wrote_none c.put.new.self c.put-2.new.self _ c.in_ok-put-2.ensures (λ rest. refl) in
    none_then c.close-2.result _ _ _ (none_both _ _ _ (none_both _ _ _ c.in_ok-open_scaled.ensures notes) third)
    c.close-2.ensures
